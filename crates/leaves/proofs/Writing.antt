-- The head and the leaves pasted one behind the other into the output, and what is answered then.
-- Assumes nothing.
use Rattle.std.specs.Prelude.{◌≡◌, refl, List, [], ◌∷◌, ◌++◌, ℕ, zero, suc, ◌+◌, ◌*◌, ◌%◌, ◌^◌, ◌≤◌, ◌<◌, length, set, take, drop}
use Rattle.std.proofs.Common.{ap, ap₂, sym, ◌∙◌, append_assoc, append-nil, arith, length-append, take_all, take-add, pow_mono}
use Rattle.octets.specs.Octets.{cut, be, pasted}
use Rattle.octets.specs.OctetsLaws.{cut_whole, pasted_append, pasted_none}
use Rattle.limits.specs.Limits.{tallest_tree}
use Rattle.numbers.specs.Numbers.{refused, done, no_room}
use Rattle.numbers.specs.declared.Answer.{Answer}
use Rattle.tree.proofs.GeometryLaws.{shifted_one}
use Rattle.tree.specs.Values.{leaf_of}
use Rattle.tree.proofs.ValuesLaws.{leaf_octets}
use Rattle.store.specs.Store.{facts_root, height_of, Facts}
use Rattle.store.specs.StoreLaws.{usable_facts, facts_height}
use Rattle.header.specs.Header.{hashes_id, header_size}
use Rattle.pieces.specs.Pieces.{piece_height, piece_number}
use Rattle.pieces.specs.Asks.{PieceIn}
use Rattle.pieces.proofs.PiecesLaws.{piece_right, piece_in_lem}
use Rattle.leaves.specs.Leaves.{leaf_run, head_of, run_over, leaf_message, leaves_told, leaves_answer, leaves_after}
use Rattle.leaves.specs.LeavesLaws.{run_more, run_length, head_length, message_length, leaves_refused, leaves_short, leaves_done, leaves_nothing, told_some, run_inside, root_size}

-- ---- the head

first_byte : (out : List ℕ) (x : ℕ) → 1 ≤ length out → set out 0 x ≡ pasted out 0 (x ∷ [])
unfolding pasted
first_byte [] x l = absurd (omega arith)
first_byte (y ∷ ys) x l = refl

pub head_put : (out root : List ℕ) (index len : ℕ) (m1 m2 m3 m4 m5 : List ℕ) → length root ≡ 32 → header_size ≤ length out
    → m1 ≡ pasted (set out 0 hashes_id) 1 root → m2 ≡ pasted m1 33 (be 4 0) → m3 ≡ pasted m2 37 (be 4 index)
    → m4 ≡ pasted m3 41 (be 4 len) → m5 ≡ pasted m4 45 (be 4 0) → m5 ≡ pasted out 0 (head_of root (run_over index len))
unfolding head_of
head_put out root index len m1 m2 m3 m4 m5 r fits e1 e2 e3 e4 e5 =
    let d = hashes_id ∷ [] in
    let b = be 4 0 in
    let i = be 4 index in
    let n = be 4 len in
    let l1 : length (d ++ root) ≡ 33 = length-append d root ∙ omega arith in
    let l2 : length (d ++ root ++ b) ≡ 37 = length-append (d ++ root) b ∙ omega arith in
    let l3 : length (d ++ root ++ b ++ i) ≡ 41 = length-append (d ++ root ++ b) i ∙ omega arith in
    let l4 : length (d ++ root ++ b ++ i ++ n) ≡ 45 = length-append (d ++ root ++ b ++ i) n ∙ omega arith in
    let q1 : 0 + length d ≡ 1 = refl in
    let q2 : 0 + length (d ++ root) ≡ 33 = omega arith in
    let q3 : 0 + length (d ++ root ++ b) ≡ 37 = omega arith in
    let q4 : 0 + length (d ++ root ++ b ++ i) ≡ 41 = omega arith in
    let q5 : 0 + length (d ++ root ++ b ++ i ++ n) ≡ 45 = omega arith in
    let s1 : m1 ≡ pasted out 0 (d ++ root) = e1 ∙ ap₂ (λ (t : List ℕ) (k : ℕ). pasted t k root) (first_byte out hashes_id (omega arith)) (sym q1) ∙ pasted_append out 0 d root (omega arith) in
    let s2 : m2 ≡ pasted out 0 (d ++ root ++ b) = e2 ∙ ap₂ (λ (t : List ℕ) (k : ℕ). pasted t k b) s1 (sym q2) ∙ pasted_append out 0 (d ++ root) b (omega arith) in
    let s3 : m3 ≡ pasted out 0 (d ++ root ++ b ++ i) = e3 ∙ ap₂ (λ (t : List ℕ) (k : ℕ). pasted t k i) s2 (sym q3) ∙ pasted_append out 0 (d ++ root ++ b) i (omega arith) in
    let s4 : m4 ≡ pasted out 0 (d ++ root ++ b ++ i ++ n) = e4 ∙ ap₂ (λ (t : List ℕ) (k : ℕ). pasted t k n) s3 (sym q4) ∙ pasted_append out 0 (d ++ root ++ b ++ i) n (omega arith) in
    let s5 : m5 ≡ pasted out 0 (d ++ root ++ b ++ i ++ n ++ b) = e5 ∙ ap₂ (λ (t : List ℕ) (k : ℕ). pasted t k b) s4 (sym q5) ∙ pasted_append out 0 (d ++ root ++ b ++ i ++ n) b (omega arith) in
    let g : d ++ root ++ b ++ i ++ n ++ b ≡ hashes_id ∷ (root ++ (b ++ (i ++ (n ++ b)))) =
    append_assoc (d ++ root ++ b ++ i) n b ∙ append_assoc (d ++ root ++ b) i (n ++ b) ∙ append_assoc (d ++ root) b (i ++ (n ++ b)) ∙ append_assoc d root (b ++ (i ++ (n ++ b))) in
    s5 ∙ ap (pasted out 0) g

-- ---- the leaves

pub leaf_none : (bytes out : List ℕ) (at : ℕ) → out ≡ pasted out at (leaf_run (leaf_of bytes) 0)
unfolding leaf_run
leaf_none bytes out at = sym (pasted_none out at)

-- hashes side by side, each the leaf of its place, go on with the leaves in a row
row_on : (leaf : ℕ → List ℕ) (i : ℕ) (h : List ℕ) (w : ℕ) → ((x : ℕ) → x < w → cut h (32 * x) 32 ≡ leaf (i + x)) → leaf_run leaf (i + w) ≡ leaf_run leaf i ++ take (32 * w) h
unfolding cut
row_on leaf i h zero f = let z : i + 0 ≡ i = omega arith in ap (leaf_run leaf) z ∙ sym (append-nil (leaf_run leaf i))
row_on leaf i h (suc w) f =
    let n : i + suc w ≡ i + w + 1 = omega arith in
    let m : 32 * w + 32 ≡ 32 * suc w = omega arith in
    ap (leaf_run leaf) n
    ∙ run_more leaf (i + w)
    ∙ ap₂ (λ (a b : List ℕ). a ++ b) (row_on leaf i h w (λ x l. f x (omega arith))) (sym (f w (omega arith)))
    ∙ append_assoc (leaf_run leaf i) (take (32 * w) h) (take 32 (drop (32 * w) h))
    ∙ ap (λ (y : List ℕ). leaf_run leaf i ++ y) (sym (take-add (32 * w) 32 h) ∙ ap (λ (y : ℕ). take y h) m)

pub leaf_more : (bytes out₀ out out' h : List ℕ) (at i w : ℕ) → at + 32 * (i + w) ≤ length out₀ → length h ≡ 32 * w → ((x : ℕ) → x < w → cut h (32 * x) 32 ≡ leaf_of bytes (i + x))
    → out ≡ pasted out₀ at (leaf_run (leaf_of bytes) i) → out' ≡ pasted out (at + 32 * i) h → out' ≡ pasted out₀ at (leaf_run (leaf_of bytes) (i + w))
leaf_more bytes out₀ out out' h at i w f hl e p q =
    let rl = run_length (leaf_of bytes) (λ j. (leaf_octets bytes j).size) i in
    let n : at + length (leaf_run (leaf_of bytes) i) ≡ at + 32 * i = omega arith in
    let all : take (32 * w) h ≡ h = take_all (32 * w) h (omega arith) in
    q ∙ ap (λ (t : List ℕ). pasted t (at + 32 * i) h) p
    ∙ ap (λ (k : ℕ). pasted (pasted out₀ at (leaf_run (leaf_of bytes) i)) k h) (sym n)
    ∙ pasted_append out₀ at (leaf_run (leaf_of bytes) i) h (omega arith)
    ∙ ap (pasted out₀ at) (sym (row_on (leaf_of bytes) i h w e ∙ ap (λ (y : List ℕ). leaf_run (leaf_of bytes) i ++ y) all))

pub leaf_one : (bytes out₀ out out' h : List ℕ) (at i : ℕ) → at + 32 * (i + 1) ≤ length out₀ → h ≡ leaf_of bytes i
    → out ≡ pasted out₀ at (leaf_run (leaf_of bytes) i) → out' ≡ pasted out (at + 32 * i) h → out' ≡ pasted out₀ at (leaf_run (leaf_of bytes) (i + 1))
leaf_one bytes out₀ out out' h at i f e =
    let hl : length h ≡ 32 = ap length e ∙ (leaf_octets bytes i).size in
    leaf_more bytes out₀ out out' h at i 1 f hl
    (λ x l.
    let z : 32 * x ≡ 0 = omega arith in
    let k : i ≡ i + x = omega arith in
    ap (λ (a : ℕ). cut h a 32) z ∙ cut_whole h 32 (omega arith) ∙ e ∙ ap (leaf_of bytes) k)

pub leaf_done : (bytes out₀ out : List ℕ) (at c i : ℕ) → i ≤ c → c ≤ i → out ≡ pasted out₀ at (leaf_run (leaf_of bytes) i) → out ≡ pasted out₀ at (leaf_run (leaf_of bytes) c)
leaf_done bytes out₀ out at c i a b p = let e : i ≡ c = omega arith in rw e at p

-- ---- what is answered

pub not_right : (s : List ℕ) (i : ℕ) (piece out : List ℕ) (n : ℕ) → n ≡ piece_number s i piece → (n ≡ 0 → ⊥) → (a : Answer) → a ≡ refused n
    → (a ≡ leaves_answer s i piece out) × (out ≡ leaves_after s i piece out)
not_right s i piece out n en ne a ea = let w = leaves_refused s i piece out (λ z. ne (en ∙ z)) in (ea ∙ ap (λ (x : ℕ). refused x) en ∙ sym w.0, sym w.1)

-- a piece that is right
module _ (s : List ℕ) (i : ℕ) (piece : List ℕ) (z : piece_number s i piece ≡ 0) where
  facts : Facts s
  facts = usable_facts s (piece_right s i piece z).store

  pub long : 64 ≤ length s
  long = facts.long

  placed : PieceIn s i
  placed = piece_in_lem s facts i (piece_right s i piece z).inside

  -- its node stands no higher than the root
  pub low : piece_height s ≤ tallest_tree
  low = omega (arith, placed.layer, facts_height s facts)

  -- its run ends within the leaves
  index_small : i * 2 ^ piece_height s + 2 ^ piece_height s ≤ 2 ^ tallest_tree
  index_small =
      let w : 2 ^ height_of s ≤ 2 ^ tallest_tree = pow_mono {i = height_of s} {j = tallest_tree} (facts_height s facts) in
      omega (arith, run_inside (height_of s) (piece_height s) i placed.layer placed.inside)

  -- how many leaves there are, as code shifts it
  pub count_is : (k : ℕ) → k ≡ piece_height s → (1 * 2 ^ k) % 18446744073709551616 ≡ 2 ^ piece_height s
  count_is k e = shifted_one k (omega (arith, low)) ∙ ap (λ (x : ℕ). 2 ^ x) e

  pub index_fits : (c : ℕ) → c ≡ 2 ^ piece_height s → i * c + c ≤ 2 ^ tallest_tree
  index_fits c e = rw e index_small

  -- a node that is a leaf
  pub none_told : (out : List ℕ) → piece_height s ≡ 0 → (a : Answer) → a ≡ done 0 → (a ≡ leaves_answer s i piece out) × (out ≡ leaves_after s i piece out)
  none_told out k a e = let w = leaves_nothing s i piece out z k in (e ∙ sym w.0, sym w.1)

  size_is : length (leaf_message s i piece) ≡ header_size + 32 * 2 ^ piece_height s
  size_is = message_length s i piece (root_size s facts) (λ j. (leaf_octets piece j).size)

  module _ (some : piece_height s ≡ 0 → ⊥) (out : List ℕ) where
    told_size_lem : length (leaves_told s i piece) ≡ header_size + 32 * 2 ^ piece_height s
    told_size_lem = ap length (told_some s i piece out some) ∙ size_is

    pub too_short : length out < header_size + 32 * 2 ^ piece_height s → (a : Answer) → a ≡ refused no_room → (a ≡ leaves_answer s i piece out) × (out ≡ leaves_after s i piece out)
    too_short l a e = let w = leaves_short s i piece out z (omega (arith, told_size_lem)) in (e ∙ sym w.0, sym w.1)

    pub all_put : (c : ℕ) → c ≡ 2 ^ piece_height s → header_size + 32 * c ≤ length out → (root m1 m2 : List ℕ) → root ≡ facts_root s
        → m1 ≡ pasted out 0 (head_of root (run_over (i * c) c)) → m2 ≡ pasted m1 header_size (leaf_run (leaf_of piece) c)
        → (a : Answer) → a ≡ done (header_size + 32 * c) → (a ≡ leaves_answer s i piece out) × (m2 ≡ leaves_after s i piece out)
    all_put c ec l root m1 m2 er e1 e2 a ea =
        let k : header_size + 32 * c ≡ header_size + 32 * 2 ^ piece_height s = omega arith in
        let w = leaves_done s i piece out z (omega (arith, told_size_lem)) in
        let H = head_of (facts_root s) (run_over (i * 2 ^ piece_height s) (2 ^ piece_height s)) in
        let L = leaf_run (leaf_of piece) (2 ^ piece_height s) in
        let hl : length H ≡ header_size = head_length (facts_root s) (run_over (i * 2 ^ piece_height s) (2 ^ piece_height s)) (root_size s facts) in
        let ll : length L ≡ 32 * 2 ^ piece_height s = run_length (leaf_of piece) (λ j. (leaf_octets piece j).size) (2 ^ piece_height s) in
        let p1 : m1 ≡ pasted out 0 H = rw (ec, er) at e1 in
        let p2 : m2 ≡ pasted m1 header_size L = rw ec at e2 in
        let q : 0 + length H ≡ header_size = omega arith in
        let both : m2 ≡ pasted out 0 (H ++ L) = p2 ∙ ap₂ (λ (t : List ℕ) (n : ℕ). pasted t n L) p1 (sym q) ∙ pasted_append out 0 H L (omega arith) in
        let told : leaves_told s i piece ≡ H ++ L = told_some s i piece out some ∙ message_is s i piece in
        (ea ∙ ap (λ (n : ℕ). done n) (k ∙ sym told_size_lem) ∙ sym w.0, both ∙ ap (pasted out 0) (sym told) ∙ sym w.1)
      where
        message_is : (s : List ℕ) (i : ℕ) (piece : List ℕ) → leaf_message s i piece ≡ head_of (facts_root s) (run_over (i * 2 ^ piece_height s) (2 ^ piece_height s)) ++ leaf_run (leaf_of piece) (2 ^ piece_height s)
        message_is s i piece = unfold leaf_message in refl
