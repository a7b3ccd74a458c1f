-- What each function asks for and answers, from what its callees ensure and the tests it took.
-- Assumes nothing.
use Rattle.std.specs.Prelude.{◌≡◌, Bool, true, false, List, ◌∷◌, ◌++◌, ℕ, ◌+◌, ◌-◌, ◌*◌, ◌/◌, ◌^◌, ◌≤◌, ◌<◌, length, set, replicate}
use Rattle.std.proofs.Common.{ap, ap₂, sym, ◌∙◌, append_assoc, append-nil, arith, length-append, pow_mono, eq-eqb, ne_eqb, lt-ltb, le-ltb}
use Rattle.limits.specs.Limits.{tallest_tree}
use Rattle.octets.specs.Octets.{be, pasted}
use Rattle.octets.specs.OctetsLaws.{pasted_append}
use Rattle.tree.specs.Geometry.{height, log2, node_number, covering, piece_layer, has_layer}
use Rattle.tree.proofs.GeometryLaws.{node_number_range}
use Rattle.cells.specs.Cells.{Room}
use Rattle.store.specs.Store.{usable, file_length, piece_length, facts_root, blocks_of, height_of, positions}
use Rattle.store.specs.StoreLaws.{usable_facts, facts_usable, positions_some}
use Rattle.header.specs.Header.{Small, request_id}
use Rattle.header.specs.declared.Header.{Header}
use Rattle.asking.specs.declared.next.Request.{Request}
use Rattle.asking.specs.Asking.{layer_asked, next_number, wanted, held_front, lowest, run_length, uncles_needed, proof_for, run_top, run_header, next_header, request_bytes, no_request, request_for, next_answer}
use Rattle.asking.proofs.AskingLaws.{needed_most, proof_most, RunFacts, run_facts, top_in, Asked, number_says, asked_low, wanted_within, height_small, asked_below, asked_run}
use Rattle.asking.specs.Asks.{InLayer}

-- the facts of a usable store are there,
pub usable_long : (s : List ℕ) → usable s ≡ true → 64 ≤ length s
usable_long s u = (usable_facts s u).long

-- and its root's cell
pub root_room : (s : List ℕ) → usable s ≡ true → Room 2 s
root_room s u = omega (arith, (usable_facts s u).room, positions_some (height_of s))

-- ---- a layer that may be asked for

pub layer_zero : (s : List ℕ) (l : ℕ) → l ≡ 0 → true ≡ layer_asked s l
unfolding layer_asked
layer_zero s l e = rw e

pub layer_other : (s : List ℕ) (l p q : ℕ) → (l ≡ 0 → ⊥) → q ≡ piece_length s → p ≡ piece_layer q → (l ≡ p → ⊥) → false ≡ layer_asked s l
unfolding layer_asked
layer_other s l p q a b d e = rw (ne_eqb l 0 a, ne_eqb l (piece_layer (piece_length s)) (λ z. e (z ∙ sym (d ∙ ap piece_layer b))))

pub layer_pieces : (s : List ℕ) (l p q n : ℕ) (r : Bool) → (l ≡ 0 → ⊥) → q ≡ piece_length s → p ≡ piece_layer q → l ≡ p → n ≡ file_length s → r ≡ has_layer n q
    → r ≡ layer_asked s l
unfolding layer_asked
layer_pieces s l p q n r a b d e f g =
    rw (ne_eqb l 0 a, eq-eqb l (piece_layer (piece_length s)) (e ∙ d ∙ ap piece_layer b)) (g ∙ ap₂ has_layer f b)

-- ---- a run

-- run j of layer l, of length len = 2^k: its top is a position of the tree, and each number of its header a small one
module _ (s : List ℕ) (h l j : ℕ) (f : usable s ≡ true) (e : h ≡ height_of s) (I : InLayer h l j) (len k : ℕ) (a : len ≡ run_length h l) (b : k ≡ log2 len) where
  R : RunFacts h l
  R = run_facts h l I.below

  k_is : k ≡ log2 (run_length h l)
  k_is = b ∙ ap height a

  pub up_there : l + k ≤ h
  up_there = omega (arith, R.within, k_is)

  pub up_small : l + k ≤ tallest_tree
  up_small = omega (arith, up_there, I.tall)

  pub top_there : (l + k ≤ h) × (h ≤ 63) × (j < 2 ^ (h - (l + k)))
  top_there = (up_there, omega (arith, I.tall), rw k_is (top_in h l j I.below I.inside))

  pub index_small : j * len < 2 ^ 20
  index_small =
      let w : 2 ^ (h - l) ≤ 2 ^ 20 = pow_mono {i = h - l} {j = 20} (omega (arith, I.tall)) in
      rw a (omega (arith, I.inside))

  module _ (top : ℕ) (t : top ≡ node_number h (l + k) j) where
    pub top_room : Room (top + 1) s
    unfolding positions
    top_room =
        let w = node_number_range h (l + k) j top_there.2 in
        let p : 31 + 33 * (2 * 2 ^ h) ≤ length s = rw e (usable_facts s f).room in
        omega arith

    module _ (u : ℕ) (v : u ≡ uncles_needed s (h - (l + k)) top) where
      pub few_layers : (k ≤ tallest_tree) × (u ≤ tallest_tree)
      few_layers = let w = needed_most s (h - (l + k)) top in (omega (arith, up_small), omega (arith, I.tall))

      module _ (proof : ℕ) (w : proof ≡ proof_for k u) where
        header_same : record { base = l; index = j * len; len = len; proof = proof } ≡ run_header s l j
        unfolding run_header run_top
        header_same = rw (w, v, t, b, a, e)

        pub header_is : (record { base = l; index = j * len; len = len; proof = proof } ≡ run_header s l j) × Small (record { base = l; index = j * len; len = len; proof = proof })
        header_is =
            let few = few_layers in
            let most = proof_most k u in (
              header_same,
              record {
                base = omega (arith, I.below, I.tall);
                index = omega (arith, index_small);
                len = omega (arith, R.most);
                proof = omega arith;
              },
            )

-- ---- its bytes

whole_pasted : (h : List ℕ) → length h ≡ 48 → pasted (set (replicate 49 0) 0 request_id) 1 h ≡ request_id ∷ h
unfolding pasted
whole_pasted h e = rw e (ap (λ (t : List ℕ). request_id ∷ t) (append-nil h))

pub bytes_are : (root : List ℕ) (x : Header) (m1 m2 m3 m4 m5 : List ℕ) → length root ≡ 32
    → m1 ≡ pasted (set (replicate 49 0) 0 request_id) 1 root → m2 ≡ pasted m1 33 (be 4 x.base) → m3 ≡ pasted m2 37 (be 4 x.index)
    → m4 ≡ pasted m3 41 (be 4 x.len) → m5 ≡ pasted m4 45 (be 4 x.proof) → m5 ≡ request_bytes root x
unfolding request_bytes
bytes_are root x m1 m2 m3 m4 m5 r e1 e2 e3 e4 e5 =
    let M = set (replicate 49 0) 0 request_id in
    let b = be 4 x.base in
    let i = be 4 x.index in
    let n = be 4 x.len in
    let p = be 4 x.proof in
    let l2 : length (root ++ b) ≡ 36 = length-append root b ∙ omega arith in
    let l3 : length (root ++ b ++ i) ≡ 40 = length-append (root ++ b) i ∙ omega arith in
    let l4 : length (root ++ b ++ i ++ n) ≡ 44 = length-append (root ++ b ++ i) n ∙ omega arith in
    let l5 : length (root ++ b ++ i ++ n ++ p) ≡ 48 = length-append (root ++ b ++ i ++ n) p ∙ omega arith in
    let q2 : 1 + length root ≡ 33 = omega arith in
    let q3 : 1 + length (root ++ b) ≡ 37 = omega arith in
    let q4 : 1 + length (root ++ b ++ i) ≡ 41 = omega arith in
    let q5 : 1 + length (root ++ b ++ i ++ n) ≡ 45 = omega arith in
    let s2 : m2 ≡ pasted M 1 (root ++ b) = e2 ∙ ap₂ (λ (t : List ℕ) (k : ℕ). pasted t k b) e1 (sym q2) ∙ pasted_append M 1 root b (omega arith) in
    let s3 : m3 ≡ pasted M 1 (root ++ b ++ i) = e3 ∙ ap₂ (λ (t : List ℕ) (k : ℕ). pasted t k i) s2 (sym q3) ∙ pasted_append M 1 (root ++ b) i (omega arith) in
    let s4 : m4 ≡ pasted M 1 (root ++ b ++ i ++ n) = e4 ∙ ap₂ (λ (t : List ℕ) (k : ℕ). pasted t k n) s3 (sym q4) ∙ pasted_append M 1 (root ++ b ++ i) n (omega arith) in
    let s5 : m5 ≡ pasted M 1 (root ++ b ++ i ++ n ++ p) = e5 ∙ ap₂ (λ (t : List ℕ) (k : ℕ). pasted t k p) s4 (sym q5) ∙ pasted_append M 1 (root ++ b ++ i ++ n) p (omega arith) in
    let g : root ++ b ++ i ++ n ++ p ≡ root ++ (b ++ (i ++ (n ++ p))) =
    append_assoc (root ++ b ++ i) n p ∙ append_assoc (root ++ b) i (n ++ p) ∙ append_assoc root b (i ++ (n ++ p)) in
    s5 ∙ whole_pasted (root ++ b ++ i ++ n ++ p) l5 ∙ ap (λ (t : List ℕ). request_id ∷ t) g

-- ---- the whole answer

pub next_refused : (s : List ℕ) (l n : ℕ) (r : Request) → n ≡ next_number s l → (n ≡ 0 → ⊥) → r ≡ no_request n → r ≡ next_answer s l
unfolding next_answer
next_refused s l n r e ne q = q ∙ sym (rw (← e, ne_eqb n 0 ne))

-- where the number is 0: what is looked at lies in the store, and the answer is the run with the first one not held, or nothing
module _ (s : List ℕ) (l n : ℕ) (e : n ≡ next_number s l) (z : n ≡ 0) where
  pub next_asked : Asked s l
  next_asked = number_says s l (sym e ∙ z)

  pub next_usable : usable s ≡ true
  next_usable = facts_usable s next_asked.facts

  module _ (h : ℕ) (eh : h ≡ height_of s) where
    pub next_node : (l ≤ h) × (h ≤ 63) × (0 < 2 ^ (h - l))
    next_node =
        let A = next_asked in
        (rw eh (asked_low s l A.facts A.layer), rw eh (omega (arith, height_small s A.facts)), lib.Pow.pow_pos (h - l))

    module _ (b c first : ℕ) (eb : b ≡ blocks_of s) (ec : c ≡ covering b l) (ef : first ≡ node_number h l 0) where
      c_is : c ≡ wanted s l
      unfolding wanted
      c_is = ec ∙ ap (λ (y : ℕ). covering y l) eb

      pub front_room : Room (first + c) s
      unfolding positions node_number
      front_room =
          let A = next_asked in
          let low = asked_low s l A.facts A.layer in
          let w = wanted_within s l low in
          let p : 31 + 33 * (2 * 2 ^ height_of s) ≤ length s = A.facts.room in
          let m : 2 ^ (height_of s - l) ≤ 2 ^ height_of s = pow_mono {i = height_of s - l} {j = height_of s} (omega arith) in
          let f2 : first ≡ 2 ^ (height_of s - l) + 0 = ef ∙ ap (λ (y : ℕ). 2 ^ (y - l) + 0) eh in
          omega (arith, c_is)

      module _ (i : ℕ) (ei : i ≡ held_front s first c) where
        i_is : i ≡ lowest s l
        unfolding lowest
        i_is = ei ∙ rw (ef, eh, c_is)

        pub next_nothing : (r : Request) → c ≤ i → r ≡ no_request 0 → r ≡ next_answer s l
        unfolding next_answer
        next_nothing r g q = q ∙ sym (rw (← e, z, le-ltb (lowest s l) (wanted s l) (omega (arith, i_is, c_is))))

        module _ (t : i < c) where
          some_left : lowest s l < wanted s l
          some_left = omega (arith, i_is, c_is)

          pub below : l < h
          below = rw eh (asked_below s l next_asked some_left)

          pub length_asks : (l ≤ h) × (h ≤ tallest_tree)
          length_asks = (omega (arith, below), rw eh (height_small s next_asked.facts))

          module _ (len : ℕ) (el : len ≡ run_length h l) where
            pub length_some : 1 ≤ len
            length_some = let R = run_facts h l below in omega (arith, R.two)

            pub in_layer : InLayer h l (i / len)
            in_layer =
                let w = asked_run s l next_asked some_left in
                record { below = below; tall = length_asks.1; inside = rw (el, i_is, eh) w }

            pub next_request_is : (x : Header) (root : List ℕ) (r : Request) → x ≡ run_header s l (i / len) → root ≡ facts_root s → r ≡ request_for root x → r ≡ next_answer s l
            unfolding next_answer next_header
            next_request_is x root r ex er q =
                let same : run_header s l (i / len) ≡ run_header s l (lowest s l / run_length (height_of s) l) = rw (el, i_is, eh) in
                q ∙ ap₂ request_for er (ex ∙ same) ∙ sym (rw (← e, z, lt-ltb (lowest s l) (wanted s l) some_left))
