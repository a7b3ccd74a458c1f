-- What is worked out ahead of the pass over the families: the padding values, and the hashes of eight pairs.
-- Assumes nothing.
use Rattle.std.specs.Prelude.{◌≡◌, refl, List, Bool, true, false, cond, ℕ, zero, suc, ◌+◌, ◌-◌, ◌*◌, ◌%◌, ◌≤◌, ◌<◌, length}
use Rattle.std.proofs.Common.{ap, ap₂, sym, ◌∙◌, arith}
use Rattle.octets.specs.Octets.{cut, pasted, same}
use Rattle.octets.specs.OctetsLaws.{cut_length, cut_cut, cut_pasted_same, pasted_length, zero_octets}
use Rattle.sha256.specs.Sha256.{pair_hash}
use Rattle.sha256.specs.Sha256Laws.{pair_octets}
use Rattle.lanes.specs.Hashes.{Filled, parent_of}
use Rattle.tree.specs.Values.{pad_value}
use Rattle.store.specs.StoreLaws.{tree_says}
use Rattle.saved.specs.Form.{layer_in, index_in, hash_in, places_good}
use Rattle.saved.specs.Ahead.{Padded, pair_in, Ready}
use Rattle.saved.specs.Saved.{made_by, family_at, claimed}
use Rattle.saved.proofs.Answers.{place_in_tree, claimed_turn}

-- ---- lengths

pub pad_length : (l : ℕ) → length (pad_value l) ≡ 32
unfolding pad_value
pad_length zero = zero_octets.size
pad_length (suc l) = (pair_octets (pad_value l) (pad_value l)).size

pub hash_length : (b : List ℕ) (k : ℕ) → 86 + 41 * k ≤ length b → length (hash_in b k) ≡ 32
unfolding hash_in
hash_length b k l = cut_length b (54 + 41 * k) 32 (omega arith)

-- ---- padding

-- a position of the tree has a padding value in the table
pub place_low : (h : ℕ) (b : List ℕ) (p k : ℕ) → places_good h b p ≡ true → k < p → layer_in b k ≤ h
place_low h b p k g l = (tree_says h (layer_in b k) (index_in b k) (place_in_tree h b p k g l)).0

pub pad_found : (pads v : List ℕ) (h l : ℕ) → Padded h pads → l ≤ h → v ≡ cut pads (32 * l) 32 → v ≡ pad_value l
pad_found pads v h l f le e = e ∙ f.hashes l (omega arith)

-- ---- eight pairs

place_in_lem : (b : List ℕ) (n : ℕ) (row : List ℕ) → Filled (λ (x : ℕ). hash_in b (2 * n + x)) 512 16 row → (x a k : ℕ) → x < 16 → a ≡ 32 * x → 2 * n + x ≡ k → cut row a 32 ≡ hash_in b k
place_in_lem b n row f x a k l ea ek = ap (λ (i : ℕ). cut row i 32) ea ∙ f.hashes x l ∙ ap (hash_in b) ek

parent_is : (b : List ℕ) (n : ℕ) (row : List ℕ) → Filled (λ (x : ℕ). hash_in b (2 * n + x)) 512 16 row → (x : ℕ) → x < 8 → parent_of row x ≡ pair_in b (n + x)
unfolding parent_of pair_in
parent_is b n row f x l =
    ap₂ pair_hash
    (place_in_lem b n row f (2 * x) (64 * x) (2 * (n + x)) (omega arith) (omega arith) (omega arith))
    (place_in_lem b n row f (2 * x + 1) (64 * x + 32) (2 * (n + x) + 1) (omega arith) (omega arith) (omega arith))

-- the parents of sixteen hashes are the hashes of eight pairs
pub pairs_of : (b : List ℕ) (n : ℕ) (row r : List ℕ) → Filled (λ (x : ℕ). hash_in b (2 * n + x)) 512 16 row → Filled (parent_of row) 256 8 r → Filled (λ (x : ℕ). pair_in b (n + x)) 256 8 r
pairs_of b n row r f g = record { size = g.size; hashes = λ x l. g.hashes x l ∙ parent_is b n row f x l }

-- where the first p records have not all eight, nothing is asked of the room
pub ready_short : (b : List ℕ) (p n : ℕ) (room : List ℕ) → length room ≡ 256 → n % 8 ≡ 0 → p < 2 * n + 16 → Ready b p n room
ready_short b p n room l z lt = record { size = l; hashes = λ le x h. absurd (omega arith) }

pub ready_put : (b : List ℕ) (p n : ℕ) (room room' r : List ℕ) → length room ≡ 256 → n % 8 ≡ 0 → Filled (λ (x : ℕ). pair_in b (n + x)) 256 8 r → room' ≡ pasted room 0 r → Ready b p n room'
ready_put b p n room room' r l z f q =
    record {
      size = ap length q ∙ pasted_length room 0 r (omega (arith, f.size)) ∙ l;
      hashes = λ le x h. ap (λ (v : List ℕ). cut v (32 * x) 32) q ∙ inside x h ∙ f.hashes x h ∙ here x;
    }
  where
    here : (x : ℕ) → pair_in b (n + x) ≡ pair_in b (n - n % 8 + x)
    here x = let e : n + x ≡ n - n % 8 + x = omega arith in ap (pair_in b) e

    inside : (x : ℕ) → x < 8 → cut (pasted room 0 r) (32 * x) 32 ≡ cut r (32 * x) 32
    inside x h =
        let e : 32 * x ≡ 0 + 32 * x = omega arith in
        ap (λ (a : ℕ). cut (pasted room 0 r) a 32) e
        ∙ sym (cut_cut (pasted room 0 r) 0 256 (32 * x) 32 (omega arith))
        ∙ ap (λ (v : List ℕ). cut v (32 * x) 32) (cut_pasted_same room 0 r 256 f.size (omega arith))

-- the next pair is one of the same eight
pub ready_same : (b : List ℕ) (p n : ℕ) (room : List ℕ) → Ready b p n room → ((n + 1) % 8 ≡ 0 → ⊥) → Ready b p (n + 1) room
ready_same b p n room f ne = record { size = f.size; hashes = λ le x h. f.hashes (omega (arith, first)) x h ∙ ap (λ (k : ℕ). pair_in b (k + x)) first }
  where
    first : n - n % 8 ≡ n + 1 - (n + 1) % 8
    first = omega (arith, ne)

pub pair_ready : (b : List ℕ) (p n : ℕ) (room r : List ℕ) → Ready b p n room → 2 * (n - n % 8) + 16 ≤ p → r ≡ cut room (32 * (n % 8)) 32 → r ≡ pair_in b n
pair_ready b p n room r f le e = let q : n - n % 8 + n % 8 ≡ n = omega arith in e ∙ f.hashes le (n % 8) (omega arith) ∙ ap (pair_in b) q

pub pair_alone : (b : List ℕ) (n : ℕ) (x y r : List ℕ) → x ≡ hash_in b (2 * n) → y ≡ hash_in b (2 * n + 1) → r ≡ pair_hash x y → r ≡ pair_in b n
unfolding pair_in
pair_alone b n x y r ex ey er = er ∙ ap₂ pair_hash ex ey

pub pair_made : (b : List ℕ) (n j : ℕ) (v w : List ℕ) (r : Bool) → v ≡ pair_in b n → w ≡ hash_in b j → r ≡ same v w → r ≡ made_by b (2 * n) j
unfolding made_by pair_in
pair_made b n j v w r ev ew er = er ∙ ap₂ same ev ew

-- ---- the pass

pub claim_none : (b : List ℕ) (p n : ℕ) (room : List ℕ) (two : Bool) → two ≡ false → Ready b p n room → (n ≡ cond two (n + 1) n) × Ready b p n room
claim_none b p n room two e f = (sym (ap (λ (t : Bool). cond t (n + 1) n) e), f)

pub claim_one : (b : List ℕ) (p n : ℕ) (room : List ℕ) (two : Bool) → two ≡ true → Ready b p (n + 1) room → (n + 1 ≡ cond two (n + 1) n) × Ready b p (n + 1) room
claim_one b p n room two e f = (sym (ap (λ (t : Bool). cond t (n + 1) n) e), f)

pub claim_turn : (h c : ℕ) (b : List ℕ) (j n r : ℕ) (two : Bool) → 2 * n ≡ claimed h c b j → 2 * n ≤ j → two ≡ family_at h c b (2 * n) j → r ≡ cond two (n + 1) n
    → (2 * r ≡ claimed h c b (j + 1)) × (2 * r ≤ j + 1)
claim_turn h c b j n r two e l f q = claimed_turn h c b j (2 * n) (2 * r) two e l f (by two refl)
  where
    by : (t : Bool) → two ≡ t → 2 * r ≡ cond two (2 * n + 2) (2 * n)
    by true z =
        let w : r ≡ n + 1 = q ∙ ap (λ (x : Bool). cond x (n + 1) n) z in
        let v : 2 * r ≡ 2 * n + 2 = omega arith in
        v ∙ sym (ap (λ (x : Bool). cond x (2 * n + 2) (2 * n)) z)
    by false z =
        let w : r ≡ n = q ∙ ap (λ (x : Bool). cond x (n + 1) n) z in
        let v : 2 * r ≡ 2 * n = omega arith in
        v ∙ sym (ap (λ (x : Bool). cond x (2 * n + 2) (2 * n)) z)
