-- What saving answers and writes, from what the callees ensure and the tests it took: records one behind the other.
use Rattle.std.specs.Prelude.{◌≡◌, refl, List, [], ◌∷◌, ◌++◌, Bool, true, false, cond, ℕ, zero, suc, ◌+◌, ◌-◌, ◌*◌, ◌%◌, ◌^◌, ◌≤◌, ◌<◌, length, set, leb}
use Rattle.std.proofs.Common.{ap, ap₂, sym, ◌∙◌, append_assoc, append-nil, arith, add-one, length-append, length-set, le-leb}
use Rattle.std.proofs.Math.Decide.{ℕ_discrete}
use Rattle.std.proofs.lemmas.Bool.{lt-leb}
use Rattle.octets.specs.Octets.{be, pasted}
use Rattle.octets.specs.OctetsLaws.{be_octets, cut_length, pasted_append, pasted_length, pasted_none, set_pasted}
use Rattle.limits.specs.Limits.{tallest_tree}
use Rattle.numbers.specs.Numbers.{refused, done, unusable, no_room}
use Rattle.numbers.specs.declared.Answer.{Answer}
use Rattle.tree.specs.Geometry.{node_number}
use Rattle.tree.proofs.GeometryLaws.{node_number_range, shifted_one}
use Rattle.cells.specs.Cells.{Room, held_at, hash_at}
use Rattle.cells.specs.CellsLaws.{hash_length}
use Rattle.cells.specs.Entries.{one_if}
use Rattle.store.specs.Store.{usable, file_length, piece_length, facts_root, blocks_of, height_of, positions, Facts}
use Rattle.store.specs.StoreLaws.{usable_facts, facts_height, facts_leaves}
use Rattle.marks.specs.Marks.{marks_start, marked_at, marks_put}
use Rattle.saved.specs.Form.{Place, opening_bytes, place_bytes, places_bytes, mark_bytes, marks_bytes, end_bytes, saved_bytes}
use Rattle.saved.specs.Save.{place_held, layer_held, held_below, block_marked, marked_below, saved_of, save_answer, save_after}
use Rattle.saved.proofs.ExactLaws.{places_append, marks_append}
use Rattle.saved.proofs.ReadLaws.{marks_size}
use Rattle.saved.proofs.Answers.{pow_small}

pub one_from : (k : ℕ) (t : Bool) (x : ℕ) → x ≡ one_if t → k + x ≡ cond t (k + 1) k
one_from k true x e = omega (arith, e)
one_from k false x e = omega (arith, e)

pub node_below : (h l i n : ℕ) → i < 2 ^ (h - l) → n ≡ node_number h l i → n < positions h
unfolding positions
node_below h l i n b e = omega (arith, node_number_range h l i b)

pub held_by : (s : List ℕ) (h l i n : ℕ) (r : Bool) → n ≡ node_number h l i → r ≡ held_at s n → r ≡ held_at s (node_number h l i)
held_by s h l i n r e f = f ∙ ap (held_at s) e

layer_next : (s : List ℕ) (h l w : ℕ) → layer_held s h l (w + 1) ≡ layer_held s h l w ++ place_held s h l w
unfolding layer_held
layer_next s h l w = rw (add-one w)

layer_none : (s : List ℕ) (h l : ℕ) → layer_held s h l 0 ≡ []
unfolding layer_held
layer_none s h l = refl

place_long : (s : List ℕ) (h l i : ℕ) (t : Bool) → t ≡ held_at s (node_number h l i) → length (place_held s h l i) ≡ cond t 1 0
place_long s h l i t e = by t refl
  where
    by : (x : Bool) → t ≡ x → length (place_held s h l i) ≡ cond t 1 0
    by true q = let w : held_at s (node_number h l i) ≡ true = sym e ∙ q in rw (w, q)
    by false q = let w : held_at s (node_number h l i) ≡ false = sym e ∙ q in rw (w, q)

pub count_start : (s : List ℕ) (h l : ℕ) → 0 ≡ length (layer_held s h l 0)
count_start s h l = sym (ap length (layer_none s h l))

pub count_turn : (s : List ℕ) (h l i n r : ℕ) (t : Bool) → n ≡ length (layer_held s h l i) → n ≤ i → t ≡ held_at s (node_number h l i) → r ≡ cond t (n + 1) n
    → (r ≡ length (layer_held s h l (i + 1))) × (r ≤ i + 1)
count_turn s h l i n r t e le f q = by t refl
  where
    a : length (layer_held s h l (i + 1)) ≡ length (layer_held s h l i) + length (place_held s h l i)
    a = ap length (layer_next s h l i) ∙ simp length-append

    by : (x : Bool) → t ≡ x → (r ≡ length (layer_held s h l (i + 1))) × (r ≤ i + 1)
    by true z =
        let w : r ≡ n + 1 = q ∙ ap (λ (x : Bool). cond x (n + 1) n) z in
        let p : length (place_held s h l i) ≡ 1 = place_long s h l i t f ∙ ap (λ (x : Bool). cond x 1 0) z in
        (omega (arith, a), omega arith)
    by false z =
        let w : r ≡ n = q ∙ ap (λ (x : Bool). cond x (n + 1) n) z in
        let p : length (place_held s h l i) ≡ 0 = place_long s h l i t f ∙ ap (λ (x : Bool). cond x 1 0) z in
        (omega (arith, a), omega arith)

-- a mark is one byte
pub mark_set : (s : List ℕ) (start x : ℕ) → start ≡ marks_start s → start + x < length s → set s (start + x) 1 ≡ marks_put s x 1 1
unfolding marks_put
mark_set s start x e l = set_pasted s (start + x) 1 l ∙ ap (λ (k : ℕ). pasted s (k + x) (1 ∷ [])) e

-- a record by its four parts
pub record_put : (out a b c d : List ℕ) (at l i : ℕ) (hash : List ℕ) → at + 41 ≤ length out → length hash ≡ 32 → a ≡ set out at 2 → b ≡ pasted a (at + 1) (be 4 l) → c ≡ pasted b (at + 5) (be 4 i) → d ≡ pasted c (at + 9) hash
    → d ≡ pasted out at (place_bytes (record { layer = l; index = i; hash = hash }))
unfolding place_bytes
record_put out a b c d at l i hash fits size ea eb ec ed =
    let z4 : (x : ℕ) → length (be 4 x) ≡ 4 = λ x. (be_octets 4 x).size in
    let a0 : a ≡ pasted out at (2 ∷ []) = ea ∙ set_pasted out at 2 (omega arith) in
    let l0 = pasted_length out at (2 ∷ []) (omega arith) in
    let b0 : b ≡ pasted out at ((2 ∷ []) ++ be 4 l) = eb ∙ ap (λ (x : List ℕ). pasted x (at + 1) (be 4 l)) a0 ∙ pasted_append out at (2 ∷ []) (be 4 l) (omega (arith, z4 l)) in
    let s1 : at + length ((2 ∷ []) ++ be 4 l) ≡ at + 5 = omega (arith, z4 l) in
    let c0 : c ≡ pasted out at (((2 ∷ []) ++ be 4 l) ++ be 4 i) = ec ∙ ap₂ (λ (x : List ℕ) (k : ℕ). pasted x k (be 4 i)) b0 (sym s1) ∙ pasted_append out at ((2 ∷ []) ++ be 4 l) (be 4 i) (omega (arith, s1, z4 i)) in
    let s2 : at + length (((2 ∷ []) ++ be 4 l) ++ be 4 i) ≡ at + 9 = omega (arith, z4 l, z4 i) in
    ed ∙ ap₂ (λ (x : List ℕ) (k : ℕ). pasted x k hash) c0 (sym s2) ∙ pasted_append out at (((2 ∷ []) ++ be 4 l) ++ be 4 i) hash (omega (arith, s2))
    ∙ ap (pasted out at) (append_assoc ((2 ∷ []) ++ be 4 l) (be 4 i) hash ∙ append_assoc (2 ∷ []) (be 4 l) (be 4 i ++ hash))

place_is : (s : List ℕ) (h l i : ℕ) → held_at s (node_number h l i) ≡ true → places_bytes (place_held s h l i) ≡ place_bytes (record { layer = l; index = i; hash = hash_at s (node_number h l i) })
unfolding places_bytes
place_is s h l i e = rw e (append-nil (place_bytes (record { layer = l; index = i; hash = hash_at s (node_number h l i) })))

place_not : (s : List ℕ) (h l i : ℕ) → held_at s (node_number h l i) ≡ false → (places_bytes (place_held s h l i) ≡ []) × (length (place_held s h l i) ≡ 0)
unfolding places_bytes
place_not s h l i e = rw e (refl, refl)

pub held_passed : (s out : List ℕ) (at h l i : ℕ) (t : Bool) → t ≡ held_at s (node_number h l i) → t ≡ false
    → (at ≡ at + 41 * length (place_held s h l i)) × (out ≡ pasted out at (places_bytes (place_held s h l i)))
held_passed s out at h l i t e f =
    let w = place_not s h l i (sym e ∙ f) in
    (omega (arith, w.1), sym (ap (pasted out at) w.0 ∙ pasted_none out at))

pub held_room : (s : List ℕ) (h l i : ℕ) (t : Bool) → t ≡ held_at s (node_number h l i) → t ≡ true → length (place_held s h l i) ≡ 1
held_room s h l i t e f = place_long s h l i t e ∙ ap (λ (x : Bool). cond x 1 0) f

pub held_put : (s out u : List ℕ) (at h l i n : ℕ) (hash : List ℕ) (t : Bool) → t ≡ held_at s (node_number h l i) → t ≡ true → n ≡ node_number h l i → hash ≡ hash_at s n → u ≡ pasted out at (place_bytes (record { layer = l; index = i; hash = hash }))
    → (at + 41 ≡ at + 41 * length (place_held s h l i)) × (u ≡ pasted out at (places_bytes (place_held s h l i)))
held_put s out u at h l i n hash t e f en eh eu =
    let g : hash ≡ hash_at s (node_number h l i) = eh ∙ ap (hash_at s) en in (
      omega (arith, held_room s h l i t e f),
      eu ∙ ap (λ (x : List ℕ). pasted out at (place_bytes (record { layer = l; index = i; hash = x }))) g ∙ ap (pasted out at) (sym (place_is s h l i (sym e ∙ f))),
    )

-- the list grows with the layer
pub layer_grows : (s : List ℕ) (h l i w : ℕ) → i < w → length (layer_held s h l i) + length (place_held s h l i) ≤ length (layer_held s h l w)
layer_grows s h l i zero lt = absurd (omega arith)
layer_grows s h l i (suc w) lt =
    let a : length (layer_held s h l (suc w)) ≡ length (layer_held s h l w) + length (place_held s h l w) = ap (λ (k : ℕ). length (layer_held s h l k)) (sym (add-one w)) ∙ ap length (layer_next s h l w) ∙ simp length-append in
    elim (ℕ_discrete i w) [
      | yes e ↦ let x : length (layer_held s h l i) ≡ length (layer_held s h l w) = ap (λ (k : ℕ). length (layer_held s h l k)) e in let y : length (place_held s h l i) ≡ length (place_held s h l w) = ap (λ (k : ℕ). length (place_held s h l k)) e in omega arith
      | no ne ↦ omega (arith, layer_grows s h l i w (omega arith))
    ]

record_long : (x : Place) → length x.hash ≡ 32 → length (place_bytes x) ≡ 41
unfolding place_bytes
record_long x z = simp length-append (omega (arith, (be_octets 4 x.layer).size, (be_octets 4 x.index).size))

bytes_long : (s : List ℕ) (h l w : ℕ) → Room (positions h) s → w ≤ 2 ^ (h - l) → length (places_bytes (layer_held s h l w)) ≡ 41 * length (layer_held s h l w)
bytes_long s h l zero r b = let e = layer_none s h l in rw e (unfold places_bytes in refl)
bytes_long s h l (suc w) r b =
    let e : layer_held s h l (suc w) ≡ layer_held s h l w ++ place_held s h l w = ap (layer_held s h l) (sym (add-one w)) ∙ layer_next s h l w in
    let x : length (places_bytes (layer_held s h l w ++ place_held s h l w)) ≡ length (places_bytes (layer_held s h l w)) + length (places_bytes (place_held s h l w)) = ap length (places_append (layer_held s h l w) (place_held s h l w)) ∙ simp length-append in
    let y : length (layer_held s h l w ++ place_held s h l w) ≡ length (layer_held s h l w) + length (place_held s h l w) = simp length-append in
    rw e (omega (arith, bytes_long s h l w r (omega arith), one_place s h l w r (omega arith)))
  where
    one_place : (s : List ℕ) (h l i : ℕ) → Room (positions h) s → i < 2 ^ (h - l) → length (places_bytes (place_held s h l i)) ≡ 41 * length (place_held s h l i)
    one_place s h l i r b = by (held_at s (node_number h l i)) refl
      where
        by : (x : Bool) → held_at s (node_number h l i) ≡ x → length (places_bytes (place_held s h l i)) ≡ 41 * length (place_held s h l i)
        by false e = let w = place_not s h l i e in let q : length (places_bytes (place_held s h l i)) ≡ 0 = ap length w.0 in omega (arith, w.1)
        by true e =
            let n = node_below h l i (node_number h l i) b refl in
            let z : length (hash_at s (node_number h l i)) ≡ 32 = hash_length s (positions h) (node_number h l i) r n in
            let q : length (places_bytes (place_held s h l i)) ≡ 41 = ap length (place_is s h l i e) ∙ record_long (record { layer = l; index = i; hash = hash_at s (node_number h l i) }) z in
            omega (arith, held_room s h l i (held_at s (node_number h l i)) refl e)

pub layer_begin : (s out : List ℕ) (at h l : ℕ) → (at ≡ at + 41 * length (layer_held s h l 0)) × (out ≡ pasted out at (places_bytes (layer_held s h l 0)))
layer_begin s out at h l =
    let e = layer_none s h l in
    let x : length (layer_held s h l 0) ≡ 0 = ap length e in
    (omega arith, sym (ap (λ (L : List Place). pasted out at (places_bytes L)) e ∙ (unfold places_bytes in pasted_none out at)))

pub layer_turn : (s out u v : List ℕ) (at here r h l i w : ℕ) → Room (positions h) s → w ≤ 2 ^ (h - l) → i < w → at + 41 * length (layer_held s h l w) ≤ length out
    → here ≡ at + 41 * length (layer_held s h l i) → u ≡ pasted out at (places_bytes (layer_held s h l i)) → r ≡ here + 41 * length (place_held s h l i) → v ≡ pasted u here (places_bytes (place_held s h l i))
    → (r ≡ at + 41 * length (layer_held s h l (i + 1))) × (v ≡ pasted out at (places_bytes (layer_held s h l (i + 1))))
layer_turn s out u v at here r h l i w room b lt fits eh eu er ev =
    let e = layer_next s h l i in
    let y : length (layer_held s h l (i + 1)) ≡ length (layer_held s h l i) + length (place_held s h l i) = ap length e ∙ simp length-append in
    let z = bytes_long s h l i room (omega arith) in
    let z2 : length (places_bytes (layer_held s h l (i + 1))) ≡ 41 * length (layer_held s h l (i + 1)) = bytes_long s h l (i + 1) room (omega arith) in
    let x : places_bytes (layer_held s h l (i + 1)) ≡ places_bytes (layer_held s h l i) ++ places_bytes (place_held s h l i) = ap places_bytes e ∙ places_append (layer_held s h l i) (place_held s h l i) in
    let x2 : length (places_bytes (layer_held s h l i) ++ places_bytes (place_held s h l i)) ≡ length (places_bytes (layer_held s h l i)) + length (places_bytes (place_held s h l i)) = simp length-append in
    let x3 : length (places_bytes (layer_held s h l (i + 1))) ≡ length (places_bytes (layer_held s h l i)) + length (places_bytes (place_held s h l i)) = ap length x ∙ x2 in
    let g = layer_grows s h l i w lt in
    let k : here ≡ at + length (places_bytes (layer_held s h l i)) = omega arith in (
      omega arith,
      ev ∙ ap₂ (λ (t : List ℕ) (j : ℕ). pasted t j (places_bytes (place_held s h l i))) eu k
          ∙ pasted_append out at (places_bytes (layer_held s h l i)) (places_bytes (place_held s h l i)) (omega arith)
          ∙ ap (pasted out at) (sym x),
    )

pub fits_after : (out a : List ℕ) (at x k n : ℕ) → length a ≡ length (set out at x) → at + 41 ≤ length out → k + n ≤ 41 → at + k + n ≤ length a
fits_after out a at x k n e p q = omega (arith, length-set out at x)

pub width_is : (h l : ℕ) → h ≤ tallest_tree → ((1 * 2 ^ (h - l)) % 18446744073709551616 ≡ 2 ^ (h - l)) × (2 ^ (h - l) ≤ 2 ^ tallest_tree)
width_is h l b = (shifted_one (h - l) (omega arith), pow_small (h - l) (omega arith))

below_next : (s : List ℕ) (h l : ℕ) → held_below s h (l + 1) ≡ held_below s h l ++ layer_held s h l (2 ^ (h - l))
unfolding held_below
below_next s h l = rw (add-one l)

below_none : (s : List ℕ) (h : ℕ) → held_below s h 0 ≡ []
unfolding held_below
below_none s h = refl

pub layers_start : (s : List ℕ) (h : ℕ) → 0 ≡ length (held_below s h 0)
layers_start s h = sym (ap length (below_none s h))

below_more : (s : List ℕ) (h l : ℕ) → length (held_below s h (l + 1)) ≡ length (held_below s h l) + length (layer_held s h l (2 ^ (h - l)))
below_more s h l = ap length (below_next s h l) ∙ simp length-append

pub layers_turn : (s : List ℕ) (h l n m w : ℕ) → h ≤ tallest_tree → w ≡ 2 ^ (h - l) → n ≡ length (held_below s h l) → n ≤ l * 2 ^ tallest_tree → m ≡ length (layer_held s h l w) → m ≤ w
    → (n + m ≡ length (held_below s h (l + 1))) × (n + m ≤ (l + 1) * 2 ^ tallest_tree)
layers_turn s h l n m w b ew en le em lw =
    let e : m ≡ length (layer_held s h l (2 ^ (h - l))) = em ∙ ap (λ (k : ℕ). length (layer_held s h l k)) ew in
    (omega (arith, below_more s h l), omega (arith, (width_is h l b).1))

pub below_grows : (s : List ℕ) (h l u : ℕ) → l < u → length (held_below s h l) + length (layer_held s h l (2 ^ (h - l))) ≤ length (held_below s h u)
below_grows s h l zero lt = absurd (omega arith)
below_grows s h l (suc u) lt =
    let a : length (held_below s h (suc u)) ≡ length (held_below s h u) + length (layer_held s h u (2 ^ (h - u))) = ap (λ (k : ℕ). length (held_below s h k)) (sym (add-one u)) ∙ below_more s h u in
    elim (ℕ_discrete l u) [
      | yes e ↦ let x : length (held_below s h l) ≡ length (held_below s h u) = ap (λ (k : ℕ). length (held_below s h k)) e in let y : length (layer_held s h l (2 ^ (h - l))) ≡ length (layer_held s h u (2 ^ (h - u))) = ap (λ (k : ℕ). length (layer_held s h k (2 ^ (h - k)))) e in omega arith
      | no ne ↦ omega (arith, below_grows s h l u (omega arith))
    ]

below_long : (s : List ℕ) (h l : ℕ) → Room (positions h) s → length (places_bytes (held_below s h l)) ≡ 41 * length (held_below s h l)
below_long s h zero r = let e = below_none s h in rw e (unfold places_bytes in refl)
below_long s h (suc l) r =
    let e : held_below s h (suc l) ≡ held_below s h l ++ layer_held s h l (2 ^ (h - l)) = ap (held_below s h) (sym (add-one l)) ∙ below_next s h l in
    let x : length (places_bytes (held_below s h l ++ layer_held s h l (2 ^ (h - l)))) ≡ length (places_bytes (held_below s h l)) + length (places_bytes (layer_held s h l (2 ^ (h - l)))) = ap length (places_append (held_below s h l) (layer_held s h l (2 ^ (h - l)))) ∙ simp length-append in
    let y : length (held_below s h l ++ layer_held s h l (2 ^ (h - l))) ≡ length (held_below s h l) + length (layer_held s h l (2 ^ (h - l))) = simp length-append in
    rw e (omega (arith, below_long s h l r, bytes_long s h l (2 ^ (h - l)) r (omega arith)))

pub layers_begin : (s out : List ℕ) (at h : ℕ) → (at ≡ at + 41 * length (held_below s h 0)) × (out ≡ pasted out at (places_bytes (held_below s h 0)))
layers_begin s out at h =
    let e = below_none s h in
    let x : length (held_below s h 0) ≡ 0 = ap length e in
    (omega arith, sym (ap (λ (L : List Place). pasted out at (places_bytes L)) e ∙ (unfold places_bytes in pasted_none out at)))

pub layers_put : (s out u v : List ℕ) (at here r h l w up : ℕ) → Room (positions h) s → l < up → at + 41 * length (held_below s h up) ≤ length out → w ≡ 2 ^ (h - l)
    → here ≡ at + 41 * length (held_below s h l) → u ≡ pasted out at (places_bytes (held_below s h l)) → r ≡ here + 41 * length (layer_held s h l w) → v ≡ pasted u here (places_bytes (layer_held s h l w))
    → (r ≡ at + 41 * length (held_below s h (l + 1))) × (v ≡ pasted out at (places_bytes (held_below s h (l + 1))))
layers_put s out u v at here r h l w up room lt fits ew eh eu er ev =
    let m : length (layer_held s h l w) ≡ length (layer_held s h l (2 ^ (h - l))) = ap (λ (k : ℕ). length (layer_held s h l k)) ew in
    let y = below_more s h l in
    let z = below_long s h l room in
    let z2 = bytes_long s h l (2 ^ (h - l)) room (omega arith) in
    let x : places_bytes (held_below s h (l + 1)) ≡ places_bytes (held_below s h l) ++ places_bytes (layer_held s h l (2 ^ (h - l))) = ap places_bytes (below_next s h l) ∙ places_append (held_below s h l) (layer_held s h l (2 ^ (h - l))) in
    let g = below_grows s h l up lt in
    let k : here ≡ at + length (places_bytes (held_below s h l)) = omega arith in (
      omega arith,
      ev ∙ ap (λ (j : ℕ). pasted u here (places_bytes (layer_held s h l j))) ew
          ∙ ap₂ (λ (t : List ℕ) (j : ℕ). pasted t j (places_bytes (layer_held s h l (2 ^ (h - l))))) eu k
          ∙ pasted_append out at (places_bytes (held_below s h l)) (places_bytes (layer_held s h l (2 ^ (h - l)))) (omega arith)
          ∙ ap (pasted out at) (sym x),
    )

-- ---- the marks

marks_next : (s : List ℕ) (n : ℕ) → marked_below s (n + 1) ≡ marked_below s n ++ block_marked s n
unfolding marked_below
marks_next s n = rw (add-one n)

marks_none : (s : List ℕ) → marked_below s 0 ≡ []
unfolding marked_below
marks_none s = refl

marks_more : (s : List ℕ) (n : ℕ) → length (marked_below s (n + 1)) ≡ length (marked_below s n) + length (block_marked s n)
marks_more s n = ap length (marks_next s n) ∙ simp length-append

mark_long : (s : List ℕ) (i : ℕ) (t : Bool) → t ≡ marked_at s i → length (block_marked s i) ≡ cond t 1 0
mark_long s i t e = by t refl
  where
    by : (x : Bool) → t ≡ x → length (block_marked s i) ≡ cond t 1 0
    by true q = let w : marked_at s i ≡ true = sym e ∙ q in rw (w, q)
    by false q = let w : marked_at s i ≡ false = sym e ∙ q in rw (w, q)

pub marks_start_lem : (s : List ℕ) → 0 ≡ length (marked_below s 0)
marks_start_lem s = sym (ap length (marks_none s))

pub marks_turn : (s : List ℕ) (i n r : ℕ) (t : Bool) → n ≡ length (marked_below s i) → n ≤ i → t ≡ marked_at s i → r ≡ cond t (n + 1) n
    → (r ≡ length (marked_below s (i + 1))) × (r ≤ i + 1)
marks_turn s i n r t e le f q = by t refl
  where
    by : (x : Bool) → t ≡ x → (r ≡ length (marked_below s (i + 1))) × (r ≤ i + 1)
    by true z =
        let w : r ≡ n + 1 = q ∙ ap (λ (x : Bool). cond x (n + 1) n) z in
        let p : length (block_marked s i) ≡ 1 = mark_long s i t f ∙ ap (λ (x : Bool). cond x 1 0) z in
        (omega (arith, marks_more s i), omega arith)
    by false z =
        let w : r ≡ n = q ∙ ap (λ (x : Bool). cond x (n + 1) n) z in
        let p : length (block_marked s i) ≡ 0 = mark_long s i t f ∙ ap (λ (x : Bool). cond x 1 0) z in
        (omega (arith, marks_more s i), omega arith)

-- a kind and a number
pub short_put : (out a b : List ℕ) (at kind x : ℕ) → at + 5 ≤ length out → a ≡ set out at kind → b ≡ pasted a (at + 1) (be 4 x) → b ≡ pasted out at (kind ∷ be 4 x)
short_put out a b at kind x fits ea eb =
    let z : length (be 4 x) ≡ 4 = (be_octets 4 x).size in
    eb ∙ ap (λ (y : List ℕ). pasted y (at + 1) (be 4 x)) (ea ∙ set_pasted out at kind (omega arith)) ∙ pasted_append out at (kind ∷ []) (be 4 x) (omega (arith, z))

mark_is : (s : List ℕ) (i : ℕ) → marked_at s i ≡ true → marks_bytes (block_marked s i) ≡ 3 ∷ be 4 i
unfolding marks_bytes mark_bytes
mark_is s i e = rw e (append-nil (3 ∷ be 4 i))

mark_not : (s : List ℕ) (i : ℕ) → marked_at s i ≡ false → (marks_bytes (block_marked s i) ≡ []) × (length (block_marked s i) ≡ 0)
unfolding marks_bytes
mark_not s i e = rw e (refl, refl)

pub mark_passed : (s out : List ℕ) (at i : ℕ) (t : Bool) → t ≡ marked_at s i → t ≡ false
    → (at ≡ at + 5 * length (block_marked s i)) × (out ≡ pasted out at (marks_bytes (block_marked s i)))
mark_passed s out at i t e f =
    let w = mark_not s i (sym e ∙ f) in
    (omega (arith, w.1), sym (ap (pasted out at) w.0 ∙ pasted_none out at))

pub mark_room : (s : List ℕ) (i : ℕ) (t : Bool) → t ≡ marked_at s i → t ≡ true → length (block_marked s i) ≡ 1
mark_room s i t e f = mark_long s i t e ∙ ap (λ (x : Bool). cond x 1 0) f

pub mark_put : (s out u : List ℕ) (at i : ℕ) (t : Bool) → t ≡ marked_at s i → t ≡ true → u ≡ pasted out at (3 ∷ be 4 i)
    → (at + 5 ≡ at + 5 * length (block_marked s i)) × (u ≡ pasted out at (marks_bytes (block_marked s i)))
mark_put s out u at i t e f eu = (omega (arith, mark_room s i t e f), eu ∙ ap (pasted out at) (sym (mark_is s i (sym e ∙ f))))

pub marks_grow : (s : List ℕ) (i n : ℕ) → i < n → length (marked_below s i) + length (block_marked s i) ≤ length (marked_below s n)
marks_grow s i zero lt = absurd (omega arith)
marks_grow s i (suc n) lt =
    let a : length (marked_below s (suc n)) ≡ length (marked_below s n) + length (block_marked s n) = ap (λ (k : ℕ). length (marked_below s k)) (sym (add-one n)) ∙ marks_more s n in
    elim (ℕ_discrete i n) [
      | yes e ↦ let x : length (marked_below s i) ≡ length (marked_below s n) = ap (λ (k : ℕ). length (marked_below s k)) e in let y : length (block_marked s i) ≡ length (block_marked s n) = ap (λ (k : ℕ). length (block_marked s k)) e in omega arith
      | no ne ↦ omega (arith, marks_grow s i n (omega arith))
    ]

pub marks_begin : (s out : List ℕ) (at : ℕ) → (at ≡ at + 5 * length (marked_below s 0)) × (out ≡ pasted out at (marks_bytes (marked_below s 0)))
marks_begin s out at =
    let e = marks_none s in
    let x : length (marked_below s 0) ≡ 0 = ap length e in
    (omega arith, sym (ap (λ (L : List ℕ). pasted out at (marks_bytes L)) e ∙ (unfold marks_bytes in pasted_none out at)))

pub marks_put_lem : (s out u v : List ℕ) (at here r i n : ℕ) → i < n → at + 5 * length (marked_below s n) ≤ length out
    → here ≡ at + 5 * length (marked_below s i) → u ≡ pasted out at (marks_bytes (marked_below s i)) → r ≡ here + 5 * length (block_marked s i) → v ≡ pasted u here (marks_bytes (block_marked s i))
    → (r ≡ at + 5 * length (marked_below s (i + 1))) × (v ≡ pasted out at (marks_bytes (marked_below s (i + 1))))
marks_put_lem s out u v at here r i n lt fits eh eu er ev =
    let y = marks_more s i in
    let z = marks_size (marked_below s i) in
    let z2 = marks_size (block_marked s i) in
    let x : marks_bytes (marked_below s (i + 1)) ≡ marks_bytes (marked_below s i) ++ marks_bytes (block_marked s i) = ap marks_bytes (marks_next s i) ∙ marks_append (marked_below s i) (block_marked s i) in
    let g = marks_grow s i n lt in
    let k : here ≡ at + length (marks_bytes (marked_below s i)) = omega arith in (
      omega arith,
      ev ∙ ap₂ (λ (t : List ℕ) (j : ℕ). pasted t j (marks_bytes (block_marked s i))) eu k
          ∙ pasted_append out at (marks_bytes (marked_below s i)) (marks_bytes (block_marked s i)) (omega arith)
          ∙ ap (pasted out at) (sym x),
    )

-- ---- the opening

pub opening_put : (out a b c d : List ℕ) (n plen : ℕ) (root : List ℕ) → 45 ≤ length out → length root ≡ 32 → a ≡ set out 0 1 → b ≡ pasted a 1 (be 8 n) → c ≡ pasted b 9 (be 4 plen) → d ≡ pasted c 13 root
    → d ≡ pasted out 0 (opening_bytes n plen root)
unfolding opening_bytes
opening_put out a b c d n plen root fits size ea eb ec ed =
    let zn : length (be 8 n) ≡ 8 = (be_octets 8 n).size in
    let zp : length (be 4 plen) ≡ 4 = (be_octets 4 plen).size in
    let a0 : a ≡ pasted out 0 (1 ∷ []) = ea ∙ set_pasted out 0 1 (omega arith) in
    let b0 : b ≡ pasted out 0 ((1 ∷ []) ++ be 8 n) = eb ∙ ap (λ (x : List ℕ). pasted x 1 (be 8 n)) a0 ∙ pasted_append out 0 (1 ∷ []) (be 8 n) (omega (arith, zn)) in
    let s1 : 0 + length ((1 ∷ []) ++ be 8 n) ≡ 9 = omega (arith, zn) in
    let c0 : c ≡ pasted out 0 (((1 ∷ []) ++ be 8 n) ++ be 4 plen) = ec ∙ ap₂ (λ (x : List ℕ) (k : ℕ). pasted x k (be 4 plen)) b0 (sym s1) ∙ pasted_append out 0 ((1 ∷ []) ++ be 8 n) (be 4 plen) (omega (arith, s1, zp)) in
    let s2 : 0 + length (((1 ∷ []) ++ be 8 n) ++ be 4 plen) ≡ 13 = omega (arith, zn, zp) in
    ed ∙ ap₂ (λ (x : List ℕ) (k : ℕ). pasted x k root) c0 (sym s2) ∙ pasted_append out 0 (((1 ∷ []) ++ be 8 n) ++ be 4 plen) root (omega (arith, s2))
    ∙ ap (pasted out 0) (append_assoc ((1 ∷ []) ++ be 8 n) (be 4 plen) root ∙ append_assoc (1 ∷ []) (be 8 n) (be 4 plen ++ root))

-- ---- all records

module _ (s : List ℕ) (f : Facts s) where
  root_long : length (facts_root s) ≡ 32
  unfolding facts_root
  root_long = cut_length s 12 32 (omega (arith, f.long))

  front : List ℕ
  front = opening_bytes (file_length s) (piece_length s) (facts_root s)

  held : List Place
  held = held_below s (height_of s) (height_of s + 1)

  marks : List ℕ
  marks = marked_below s (blocks_of s)

  front_long : length front ≡ 45
  unfolding front opening_bytes
  front_long = simp length-append (omega (arith, (be_octets 8 (file_length s)).size, (be_octets 4 (piece_length s)).size, root_long))

  held_long : length (places_bytes held) ≡ 41 * length held
  unfolding held
  held_long = below_long s (height_of s) (height_of s + 1) f.room

  in_a_row : saved_bytes (saved_of s) ≡ front ++ (places_bytes held ++ (marks_bytes marks ++ end_bytes (length marks)))
  unfolding saved_bytes saved_of front held marks
  in_a_row = rw (add-one (height_of s))

  end_long : length (end_bytes (length marks)) ≡ 5
  unfolding end_bytes
  end_long = let z = (be_octets 4 (length marks)).size in omega arith

  row_long : length (saved_bytes (saved_of s)) ≡ 50 + 41 * length held + 5 * length marks
  row_long =
      let z : length (front ++ (places_bytes held ++ (marks_bytes marks ++ end_bytes (length marks)))) ≡ length front + (length (places_bytes held) + (length (marks_bytes marks) + length (end_bytes (length marks)))) = simp length-append in
      ap length in_a_row ∙ z ∙ omega (arith, front_long, held_long, marks_size marks, end_long)

  pub saved_size : length (saved_bytes (saved_of s)) ≡ 50 + 41 * length (held_below s (height_of s) (height_of s + 1)) + 5 * length (marked_below s (blocks_of s))
  unfolding held marks
  saved_size = row_long

  module _ (out a b c d : List ℕ) (fits : length (saved_bytes (saved_of s)) ≤ length out) (ea : a ≡ pasted out 0 front) (eb : b ≡ pasted a 45 (places_bytes held))
      (ec : c ≡ pasted b (45 + 41 * length held) (marks_bytes marks)) (ed : d ≡ pasted c (45 + 41 * length held + 5 * length marks) (end_bytes (length marks))) where
    row_put : d ≡ pasted out 0 (saved_bytes (saved_of s))
    row_put =
        let r = row_long in
        let z0 = front_long in
        let z1 = held_long in
        let z2 = marks_size marks in
        let z3 = end_long in
        let y1 : length (front ++ places_bytes held) ≡ length front + length (places_bytes held) = simp length-append in
        let y2 : length ((front ++ places_bytes held) ++ marks_bytes marks) ≡ length (front ++ places_bytes held) + length (marks_bytes marks) = simp length-append in
        let k0 : 45 ≡ 0 + length front = omega arith in
        let k1 : 45 + 41 * length held ≡ 0 + length (front ++ places_bytes held) = omega arith in
        let k2 : 45 + 41 * length held + 5 * length marks ≡ 0 + length ((front ++ places_bytes held) ++ marks_bytes marks) = omega arith in
        let b0 : b ≡ pasted out 0 (front ++ places_bytes held) = eb ∙ ap₂ (λ (x : List ℕ) (k : ℕ). pasted x k (places_bytes held)) ea k0 ∙ pasted_append out 0 front (places_bytes held) (omega arith) in
        let c0 : c ≡ pasted out 0 ((front ++ places_bytes held) ++ marks_bytes marks) = ec ∙ ap₂ (λ (x : List ℕ) (k : ℕ). pasted x k (marks_bytes marks)) b0 k1 ∙ pasted_append out 0 (front ++ places_bytes held) (marks_bytes marks) (omega arith) in
        ed ∙ ap₂ (λ (x : List ℕ) (k : ℕ). pasted x k (end_bytes (length marks))) c0 k2 ∙ pasted_append out 0 ((front ++ places_bytes held) ++ marks_bytes marks) (end_bytes (length marks)) (omega arith)
        ∙ ap (pasted out 0) (append_assoc (front ++ places_bytes held) (marks_bytes marks) (end_bytes (length marks)) ∙ append_assoc front (places_bytes held) (marks_bytes marks ++ end_bytes (length marks)) ∙ sym in_a_row)

  -- the records one behind the other, as the callees leave them
  pub all_put : (out a b c d : List ℕ) (n plen : ℕ) (root : List ℕ) (h behind blocks end m : ℕ) → length (saved_bytes (saved_of s)) ≤ length out
      → n ≡ file_length s → plen ≡ piece_length s → root ≡ facts_root s → a ≡ pasted out 0 (opening_bytes n plen root)
      → h ≡ height_of s → behind ≡ 45 + 41 * length (held_below s h (h + 1)) → b ≡ pasted a 45 (places_bytes (held_below s h (h + 1)))
      → blocks ≡ blocks_of s → end ≡ behind + 5 * length (marked_below s blocks) → c ≡ pasted b behind (marks_bytes (marked_below s blocks))
      → m ≡ length (marked_below s (blocks_of s)) → d ≡ pasted c end (4 ∷ be 4 m) → d ≡ pasted out 0 (saved_bytes (saved_of s))
  unfolding front held marks end_bytes
  all_put out a b c d n plen root h behind blocks end m fits en ep er ea eh eb0 eb eblocks eend ec em ed =
      let x : length (held_below s h (h + 1)) ≡ length (held_below s (height_of s) (height_of s + 1)) = ap (λ (k : ℕ). length (held_below s k (k + 1))) eh in
      let y : length (marked_below s blocks) ≡ length (marked_below s (blocks_of s)) = ap (λ (k : ℕ). length (marked_below s k)) eblocks in
      let k1 : behind ≡ 45 + 41 * length (held_below s (height_of s) (height_of s + 1)) = omega arith in
      let k2 : end ≡ 45 + 41 * length (held_below s (height_of s) (height_of s + 1)) + 5 * length (marked_below s (blocks_of s)) = omega arith in
      row_put out a b c d fits
      (ea ∙ ap₂ (λ (p : ℕ) (q : List ℕ). pasted out 0 (opening_bytes n p q)) ep er ∙ ap (λ (p : ℕ). pasted out 0 (opening_bytes p (piece_length s) (facts_root s))) en)
      (eb ∙ ap (λ (k : ℕ). pasted a 45 (places_bytes (held_below s k (k + 1)))) eh)
      (ec ∙ ap₂ (λ (j k : ℕ). pasted b j (marks_bytes (marked_below s k))) k1 eblocks)
      (ed ∙ ap₂ (λ (j k : ℕ). pasted c j (4 ∷ be 4 k)) k2 em)

-- what the callees ask for
pub layers_asked : (s : List ℕ) → usable s ≡ true → (h : ℕ) → h ≡ height_of s → (h ≤ tallest_tree) × (h + 1 ≤ h + 1) × Room (positions h) s
layers_asked s u h e = let f = usable_facts s u in (omega (arith, facts_height s f), omega arith, rw e f.room)

pub marks_asked : (s : List ℕ) → usable s ≡ true → (c : ℕ) → c ≡ blocks_of s → c ≤ 2 ^ height_of s
marks_asked s u c e = omega (arith, facts_leaves s (usable_facts s u))

held_same : (s : List ℕ) (h : ℕ) → h ≡ height_of s → length (held_below s h (h + 1)) ≡ length (held_below s (height_of s) (height_of s + 1))
held_same s h e = ap (λ (k : ℕ). length (held_below s k (k + 1))) e

marked_same : (s : List ℕ) (c : ℕ) → c ≡ blocks_of s → length (marked_below s c) ≡ length (marked_below s (blocks_of s))
marked_same s c e = ap (λ (k : ℕ). length (marked_below s k)) e

pub layers_fit_lem : (s out a : List ℕ) → usable s ≡ true → (h : ℕ) → h ≡ height_of s → length (saved_bytes (saved_of s)) ≤ length out → length a ≡ length out
    → 45 + 41 * length (held_below s h (h + 1)) ≤ length a
layers_fit_lem s out a u h e fits k = omega (arith, held_same s h e, saved_size s (usable_facts s u))

pub marked_fit : (s out a : List ℕ) → usable s ≡ true → (h behind c : ℕ) → h ≡ height_of s → behind ≡ 45 + 41 * length (held_below s h (h + 1)) → c ≡ blocks_of s
    → length (saved_bytes (saved_of s)) ≤ length out → length a ≡ length out → behind + 5 * length (marked_below s c) ≤ length a
marked_fit s out a u h behind c e eb ec fits k = omega (arith, held_same s h e, marked_same s c ec, saved_size s (usable_facts s u))

pub end_fits : (s out a : List ℕ) → usable s ≡ true → (h behind c end : ℕ) → h ≡ height_of s → behind ≡ 45 + 41 * length (held_below s h (h + 1)) → c ≡ blocks_of s
    → end ≡ behind + 5 * length (marked_below s c) → length (saved_bytes (saved_of s)) ≤ length out → length a ≡ length out → end + 5 ≤ length a
end_fits s out a u h behind c end e eb ec ee fits k = omega (arith, held_same s h e, marked_same s c ec, saved_size s (usable_facts s u))

-- ---- saving

pub save_unusable : (s out : List ℕ) (t : Bool) → t ≡ usable s → t ≡ false → (r : Answer) → r ≡ refused unusable → (r ≡ save_answer s out) × (out ≡ save_after s out)
unfolding save_answer save_after
save_unusable s out t e f r q = let u : usable s ≡ false = sym e ∙ f in (q ∙ sym (rw u), sym (rw u))

module _ (s out : List ℕ) (u : usable s ≡ true) (h p c m : ℕ) (eh : h ≡ height_of s) (ep : p ≡ length (held_below s h (h + 1))) (ec : c ≡ blocks_of s) (em : m ≡ length (marked_below s c)) where
  size_is : 50 + 41 * p + 5 * m ≡ length (saved_bytes (saved_of s))
  size_is =
      omega (arith, held_same s h eh, marked_same s c ec, saved_size s (usable_facts s u))

  pub save_counted : m ≡ length (marked_below s (blocks_of s))
  save_counted = em ∙ ap (λ (k : ℕ). length (marked_below s k)) ec

  pub save_short : (r : Answer) → length out < 50 + 41 * p + 5 * m → r ≡ refused no_room → (r ≡ save_answer s out) × (out ≡ save_after s out)
  unfolding save_answer save_after
  save_short r l q =
      let w : leb (length (saved_bytes (saved_of s))) (length out) ≡ false = lt-leb (length (saved_bytes (saved_of s))) (length out) (omega (arith, size_is)) in
      (q ∙ sym (rw (u, w)), sym (rw (u, w)))

  pub save_fits : 50 + 41 * p + 5 * m ≤ length out → length (saved_bytes (saved_of s)) ≤ length out
  save_fits l = omega (arith, size_is)

  pub save_done : (r : Answer) (t : List ℕ) → 50 + 41 * p + 5 * m ≤ length out → r ≡ done (50 + 41 * p + 5 * m) → t ≡ pasted out 0 (saved_bytes (saved_of s)) → (r ≡ save_answer s out) × (t ≡ save_after s out)
  unfolding save_answer save_after
  save_done r t l q e =
      let w : leb (length (saved_bytes (saved_of s))) (length out) ≡ true = le-leb (length (saved_bytes (saved_of s))) (length out) (save_fits l) in
      (q ∙ ap done size_is ∙ sym (rw (u, w)), e ∙ sym (rw (u, w)))
