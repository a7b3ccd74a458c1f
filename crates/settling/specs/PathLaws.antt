-- What a path of uncles settles: as code meets it, how much, where, and each position with its family.
-- All of it holds whatever `pair_hash` is. Assumes nothing.
use Rattle.std.specs.Prelude.{◌≡◌, refl, List, [], ◌++◌, Bool, true, ◌&&◌, ◌⊎◌, ℕ, zero, suc, ◌+◌, ◌-◌, ◌*◌, ◌/◌, ◌%◌, ◌≤◌, ◌<◌, length}
use Rattle.std.proofs.Common.{sym, ◌∙◌, inl, inr, arith, length-append, eq-eqb, ne_eqb}
use Rattle.std.proofs.Math.Decide.{ℕ_discrete}
use Rattle.octets.specs.Octets.{cut}
use Rattle.octets.specs.OctetsLaws.{cut_length}
use Rattle.sha256.specs.Sha256.{pair_hash}
use Rattle.sha256.specs.Sha256Laws.{pair_octets}
use Rattle.cells.specs.Cells.{put}
use Rattle.cells.specs.Entries.{Entry, one, agrees_at, agrees, put_all, lacks, fresh}
use Rattle.cells.specs.EntriesLaws.{agree_one, agree_append, fresh_small, Sound, none, more, In, here, there, Has, in_cases, one_is, no_entry, Apart, apart_one, apart_append}
use Rattle.settling.specs.Span.{Way}
use Rattle.settling.specs.Path.{sibling, parent_value, uncle, ancestor, risen, path}
use Rattle.settling.specs.AncestorLaws.{ancestor_le, Under}
use Rattle.settling.specs.SubtreeLaws.{Wrote, wrote_one, wrote_append, FamilyIn, family_of}

-- ---- beside and above, by cases

-- beside a left child stands the right one
pub sibling_even : (n : ℕ) → n % 2 ≡ 0 → sibling n ≡ n + 1
unfolding sibling
sibling_even n e = rw (eq-eqb (n % 2) 0 e)

-- and beside a right child the left one
pub sibling_odd : (n : ℕ) → (n % 2 ≡ 0 → ⊥) → sibling n ≡ n - 1
unfolding sibling
sibling_odd n e = rw (ne_eqb (n % 2) 0 e)

-- a left child's value comes first
pub parent_even : (n : ℕ) (v w : List ℕ) → n % 2 ≡ 0 → parent_value n v w ≡ pair_hash v w
unfolding parent_value
parent_even n v w e = rw (eq-eqb (n % 2) 0 e)

-- a right child's value comes second
pub parent_odd : (n : ℕ) (v w : List ℕ) → (n % 2 ≡ 0 → ⊥) → parent_value n v w ≡ pair_hash w v
unfolding parent_value
parent_odd n v w e = rw (ne_eqb (n % 2) 0 e)

-- below an even b, what stands beside a position is below b too
pub sibling_below : (n b : ℕ) → n < b → b % 2 ≡ 0 → sibling n < b
sibling_below n b h e = elim (ℕ_discrete (n % 2) 0) [ yes z ↦ omega (arith, sibling_even n z) | no z ↦ omega (arith, sibling_odd n z) ]

module _ {ls lh i u n : ℕ} (f : Way ls lh i u n) where
  -- what stands beside the beginning of a way has a cell
  pub way_beside : 31 + 33 * (sibling n + 1) ≤ ls
  way_beside = omega (arith, f.room, sibling_below n (2 * (n / 2) + 2) (omega arith) (omega arith))

  -- a way goes on one layer up, in every store of the same length
  pub way_on : (ls' : ℕ) → ls' ≡ ls → (u ≡ 0 → ⊥) → Way ls' lh (i + 1) (u - 1) (n / 2)
  way_on ls' e ne = record { room = omega (arith, f.room); uncles = omega (arith, f.uncles) }

-- ---- the equations as code meets them

-- no layer up the value is the same
pub risen_zero : (hashes : List ℕ) (i u n : ℕ) (v : List ℕ) → u ≡ 0 → risen hashes i u n v ≡ v
unfolding risen
risen_zero hashes i u n v e = rw e

-- one layer up it is the parent's
pub risen_up : (hashes : List ℕ) (i u n : ℕ) (v : List ℕ) → (u ≡ 0 → ⊥)
    → risen hashes i u n v ≡ risen hashes (i + 1) (u - 1) (n / 2) (parent_value n v (uncle hashes i))
unfolding risen
risen_up hashes i zero n v ne = absurd (ne refl)
risen_up hashes i (suc u) n v ne = let e : suc u - 1 ≡ u = omega arith in rw e

-- no layer up nothing is settled
pub path_zero : (hashes : List ℕ) (i u n : ℕ) (v : List ℕ) → u ≡ 0 → path hashes i u n v ≡ []
unfolding path
path_zero hashes i u n v e = rw e

-- else the uncle, the parent, and what the way settles from there
pub path_up : (hashes : List ℕ) (i u n : ℕ) (v : List ℕ) → (u ≡ 0 → ⊥)
    → path hashes i u n v
    ≡ one (sibling n) (uncle hashes i) ++ one (n / 2) (parent_value n v (uncle hashes i)) ++ path hashes (i + 1) (u - 1) (n / 2) (parent_value n v (uncle hashes i))
unfolding path
path_up hashes i zero n v ne = absurd (ne refl)
path_up hashes i (suc u) n v ne = let e : suc u - 1 ≡ u = omega arith in rw e

-- a path has two positions in a layer
pub path_length : (hashes : List ℕ) (i u n : ℕ) (v : List ℕ) → length (path hashes i u n v) ≡ 2 * u
unfolding path
path_length hashes i zero n v = refl
path_length hashes i (suc u) n v =
    simp length-append (omega (arith, path_length hashes (i + 1) u (n / 2) (parent_value n v (uncle hashes i))))

-- so at most that many become held
pub path_small : (s hashes : List ℕ) (i u n : ℕ) (v : List ℕ) → fresh s (path hashes i u n v) ≤ 2 * u
path_small s hashes i u n v = omega (arith, fresh_small s (path hashes i u n v), path_length hashes i u n v)

-- ---- a call that looks, by its two ways

-- no layer up: nothing to compare
pub climbed_zero : (s hashes : List ℕ) (i u n : ℕ) (v : List ℕ) → u ≡ 0 → (v ≡ risen hashes i u n v) × (true ≡ agrees s (path hashes i u n v))
unfolding agrees
climbed_zero s hashes i u n v e = (sym (risen_zero hashes i u n v e), sym (rw (path_zero hashes i u n v e)))

-- else the tests of the uncle and of the parent, and those further up
pub climbed_up : (s hashes : List ℕ) (i u n x : ℕ) (v w v2 : List ℕ) (o1 o2 : Bool) (h : List ℕ) (o all : Bool) → (u ≡ 0 → ⊥)
    → w ≡ cut hashes (32 * i) 32 → x ≡ sibling n → v2 ≡ parent_value n v w → o1 ≡ agrees_at s x w → o2 ≡ agrees_at s (n / 2) v2
    → (h ≡ risen hashes (i + 1) (u - 1) (n / 2) v2) × (o ≡ agrees s (path hashes (i + 1) (u - 1) (n / 2) v2))
    → all ≡ (o1 && o2 && o)
    → (h ≡ risen hashes i u n v) × (all ≡ agrees s (path hashes i u n v))
unfolding uncle
climbed_up s hashes i u n x v w v2 o1 o2 h o all ne p y q a b r t =
    let P = path hashes (i + 1) (u - 1) (n / 2) v2 in (
      cc (risen_up hashes i u n v ne),
      cc (
        path_up hashes i u n v ne,
        agree_append s (one (sibling n) w ++ one (n / 2) v2) P,
        agree_append s (one (sibling n) w) (one (n / 2) v2),
        agree_one s (sibling n) w,
        agree_one s (n / 2) v2,
      ),
    )

-- ---- and one that writes

-- no layer up: nothing written
pub rose_zero : (s hashes : List ℕ) (i u n : ℕ) (v : List ℕ) → u ≡ 0 → Wrote s (path hashes i u n v) 0 s
unfolding put_all fresh
rose_zero s hashes i u n v e = rw (path_zero hashes i u n v e) (refl, refl)

-- else the uncle, the parent, and what is further up, one after the other
pub rose_up : (s hashes : List ℕ) (i u n x : ℕ) (v w v2 : List ℕ) (a1 : ℕ) (s1 : List ℕ) (a2 : ℕ) (s2 : List ℕ) (a : ℕ) (s3 : List ℕ) → (u ≡ 0 → ⊥)
    → w ≡ cut hashes (32 * i) 32 → x ≡ sibling n → v2 ≡ parent_value n v w
    → a1 ≡ lacks s x → s1 ≡ put s x w → a2 ≡ lacks s1 (n / 2) → s2 ≡ put s1 (n / 2) v2
    → Wrote s2 (path hashes (i + 1) (u - 1) (n / 2) v2) a s3
    → Wrote s (path hashes i u n v) (a1 + a2 + a) s3
unfolding uncle
rose_up s hashes i u n x v w v2 a1 s1 a2 s2 a s3 ne p y q e1 f1 e2 f2 r =
    let P = path hashes (i + 1) (u - 1) (n / 2) v2 in
    let A = one x w in
    let B = one (n / 2) v2 in
    let z = wrote_append s (A ++ B) (a1 + a2) s2 P a s3 (wrote_append s A a1 s1 B a2 s2 (wrote_one s x w a1 s1 e1 f1) (wrote_one s1 (n / 2) v2 a2 s2 e2 f2)) r in
    (cc (path_up hashes i u n v ne), cc (path_up hashes i u n v ne))

-- ---- every entry is a hash, at a position below b

-- an uncle that the string has is 32 bytes
pub uncle_length : (hashes : List ℕ) (i : ℕ) → 32 * (i + 1) ≤ length hashes → length (uncle hashes i) ≡ 32
unfolding uncle
uncle_length hashes i h = cut_length hashes (32 * i) 32 (omega arith)

-- a parent's value is 32 bytes
pub parent_length : (n : ℕ) (v w : List ℕ) → length (parent_value n v w) ≡ 32
parent_length n v w =
    elim (ℕ_discrete (n % 2) 0) [
      | yes z ↦ rw (parent_even n v w z) (pair_octets v w).size
      | no z ↦ rw (parent_odd n v w z) (pair_octets w v).size
    ]

-- the path is sound, if the string has its uncles and b is even
pub path_sound : (hashes : List ℕ) (b i u n : ℕ) (v : List ℕ) → 32 * (i + u) ≤ length hashes → b % 2 ≡ 0 → n < b → Sound b (path hashes i u n v)
unfolding path
path_sound hashes b i zero n v f e l = none
path_sound hashes b i (suc u) n v f e l =
    let w = uncle_length hashes i (omega arith) in
    let half : n / 2 < b = omega arith in
    more (sibling_below n b l e) w
    (more half (parent_length n v (uncle hashes i)) (path_sound hashes b (i + 1) u (n / 2) (parent_value n v (uncle hashes i)) (omega arith) e half))

-- ---- where its entries are

-- an entry of a path is the uncle, the parent, or further on
pub path_cases : (hashes : List ℕ) (i u n : ℕ) (v : List ℕ) (e : Entry) → In e (path hashes i (suc u) n v)
    → ((e.at ≡ sibling n) × (e.hash ≡ uncle hashes i))
    ⊎ (((e.at ≡ n / 2) × (e.hash ≡ parent_value n v (uncle hashes i))) ⊎ In e (path hashes (i + 1) u (n / 2) (parent_value n v (uncle hashes i))))
unfolding path
path_cases hashes i u n v e k =
    let w = uncle hashes i in
    let p = parent_value n v w in
    elim (in_cases (one (sibling n) w ++ one (n / 2) p) (path hashes (i + 1) u (n / 2) p) k) [
      | inl x ↦ elim (in_cases (one (sibling n) w) (one (n / 2) p) x) [ inl a ↦ inl (one_is (sibling n) w a) | inr b ↦ inr (inl (one_is (n / 2) p b)) ]
      | inr y ↦ inr (inr y)
    ]

-- a position differs from the one beside it
pub sibling_differs : (n : ℕ) → sibling n ≡ n → ⊥
sibling_differs n e = elim (ℕ_discrete (n % 2) 0) [ yes z ↦ omega (arith, sibling_even n z) | no z ↦ omega (arith, sibling_odd n z) ]

-- both have the same parent
pub sibling_parent : (n : ℕ) → sibling n / 2 ≡ n / 2
sibling_parent n = elim (ℕ_discrete (n % 2) 0) [ yes z ↦ omega (arith, sibling_even n z) | no z ↦ omega (arith, sibling_odd n z) ]

-- what stands beside n is not below it
pub sibling_outside : (n : ℕ) → 1 ≤ n → Under n (sibling n) → ⊥
unfolding ancestor
sibling_outside n h w = go w.layers w.is
  where
    go : (d : ℕ) → ancestor d (sibling n) ≡ n → ⊥
    go zero e = sibling_differs n e
    go (suc d) e = omega (arith, ancestor_le d (sibling n / 2), sibling_parent n)

-- what stands beside the parent has a smaller number than n
sibling_half : (n : ℕ) → 2 ≤ n → sibling (n / 2) < n
sibling_half n h = elim (ℕ_discrete (n / 2 % 2) 0) [ yes z ↦ omega (arith, sibling_even (n / 2) z) | no z ↦ omega (arith, sibling_odd (n / 2) z) ]

-- parents and what stands beside them have smaller numbers than what stands beside n
sibling_further : (n : ℕ) → 2 ≤ n → (n / 2 < sibling n) × (sibling (n / 2) < sibling n)
sibling_further n h =
    elim (ℕ_discrete (n % 2) 0) [
      | yes z ↦ elim (ℕ_discrete (n / 2 % 2) 0)
          [ yes y ↦ omega (arith, sibling_even n z, sibling_even (n / 2) y) | no y ↦ omega (arith, sibling_even n z, sibling_odd (n / 2) y) ]
      | no z ↦ elim (ℕ_discrete (n / 2 % 2) 0)
          [ yes y ↦ omega (arith, sibling_odd n z, sibling_even (n / 2) y) | no y ↦ omega (arith, sibling_odd n z, sibling_odd (n / 2) y) ]
    ]

-- an entry of the path from n stands beside n, or has a smaller number
pub path_at : (hashes : List ℕ) (i u n : ℕ) (v : List ℕ) (e : Entry) → 1 ≤ ancestor u n → In e (path hashes i u n v) → (e.at ≡ sibling n) ⊎ (e.at < n)
unfolding ancestor path
path_at hashes i zero n v e h k = absurd (no_entry k)
path_at hashes i (suc u) n v e h k =
    let a = ancestor_le u (n / 2) in
    elim (path_cases hashes i u n v e k) [
      | inl x ↦ inl x.0
      | inr r ↦ elim r [
        | inl y ↦ inr (omega (arith, y.0))
        | inr z ↦ elim (path_at hashes (i + 1) u (n / 2) (parent_value n v (uncle hashes i)) e h z)
            [ inl s ↦ inr (omega (arith, sibling_half n (omega arith))) | inr l ↦ inr (omega arith) ]
      ]
    ]

-- a path to a position settles positions only
pub path_positive : (hashes : List ℕ) (i u n : ℕ) (v : List ℕ) → 1 ≤ ancestor u n → (e : Entry) → In e (path hashes i u n v) → 1 ≤ e.at
unfolding ancestor path
path_positive hashes i zero n v h e k = absurd (no_entry k)
path_positive hashes i (suc u) n v h e k =
    let a = ancestor_le u (n / 2) in
    elim (path_cases hashes i u n v e k) [
      | inl x ↦ omega (arith, x.0, sibling_further n (omega arith))
      | inr r ↦ elim r [ inl y ↦ omega (arith, y.0) | inr z ↦ path_positive hashes (i + 1) u (n / 2) (parent_value n v (uncle hashes i)) h e z ]
    ]

-- no two of its entries have the same position
pub path_apart : (hashes : List ℕ) (i u n : ℕ) (v : List ℕ) → 1 ≤ ancestor u n → Apart (path hashes i u n v)
unfolding path ancestor
path_apart hashes i zero n v h = none
path_apart hashes i (suc u) n v h =
    let w = uncle hashes i in
    let p = parent_value n v w in
    let P = path hashes (i + 1) u (n / 2) p in
    let a = ancestor_le u (n / 2) in
    let sa = sibling_further n (omega arith) in
    apart_append (one (sibling n) w ++ one (n / 2) p) P
    (apart_append (one (sibling n) w) (one (n / 2) p) (apart_one (sibling n) w) (apart_one (n / 2) p)
    (λ e f x y q. omega (arith, (one_is (sibling n) w x).0, (one_is (n / 2) p y).0)))
    (path_apart hashes (i + 1) u (n / 2) p h)
    (λ e f x y q.
    elim (path_at hashes (i + 1) u (n / 2) p f h y) [
      | inl s ↦ elim (in_cases (one (sibling n) w) (one (n / 2) p) x)
          [ inl c ↦ omega (arith, (one_is (sibling n) w c).0) | inr c ↦ sibling_differs (n / 2) (sym s ∙ sym q ∙ (one_is (n / 2) p c).0) ]
      | inr l ↦ elim (in_cases (one (sibling n) w) (one (n / 2) p) x)
          [ inl c ↦ omega (arith, (one_is (sibling n) w c).0) | inr c ↦ omega (arith, (one_is (n / 2) p c).0) ]
    ])

-- ---- each with its family

-- n with v, the position beside it with w, and their parent
pub pair_family : (L : List Entry) (n : ℕ) (v w : List ℕ) → Has n v L → Has (sibling n) w L → Has (n / 2) (parent_value n v w) L
    → FamilyIn L n × FamilyIn L (sibling n)
pair_family L n v w hv hw hu =
    elim (ℕ_discrete (n % 2) 0) [
      | yes z ↦
          let en : 2 * (n / 2) ≡ n = omega arith in
          let es : 2 * (n / 2) + 1 ≡ sibling n = omega (arith, sibling_even n z) in
          let hu' : Has (n / 2) (pair_hash v w) L = rw (parent_even n v w z) at hu in
          (family_of L n (n / 2) v w refl (rw en hv) (rw es hw) hu', family_of L (sibling n) (n / 2) v w (sibling_parent n) (rw en hv) (rw es hw) hu')
      | no z ↦
          let en : 2 * (n / 2) + 1 ≡ n = omega arith in
          let es : 2 * (n / 2) ≡ sibling n = omega (arith, sibling_odd n z) in
          let hu' : Has (n / 2) (pair_hash w v) L = rw (parent_odd n v w z) at hu in
          (family_of L n (n / 2) w v refl (rw es hw) (rw en hv) hu', family_of L (sibling n) (n / 2) w v (sibling_parent n) (rw es hw) (rw en hv) hu')
    ]

-- where L has n with v and the path from there, n and each position of the path is the anchor or has its family in L
pub path_family : (hashes : List ℕ) (i u n : ℕ) (v : List ℕ) (L : List Entry) → 1 ≤ ancestor u n → Has n v L
    → ((e : Entry) → In e (path hashes i u n v) → In e L)
    → ((n ≡ ancestor u n) ⊎ FamilyIn L n) × ((e : Entry) → In e (path hashes i u n v) → (e.at ≡ ancestor u n) ⊎ FamilyIn L e.at)
unfolding ancestor path
path_family hashes i zero n v L h hv f = (inl refl, λ e k. absurd (no_entry k))
path_family hashes i (suc u) n v L h hv f =
    let w = uncle hashes i in
    let hw : Has (sibling n) w L = f _ here in
    let hu : Has (n / 2) (parent_value n v w) L = f _ (there here) in
    let pf = pair_family L n v w hv hw hu in
    let ih = path_family hashes (i + 1) u (n / 2) (parent_value n v w) L h hu (λ x y. f x (there (there y))) in (
      inr pf.0,
      λ e k. elim (path_cases hashes i u n v e k) [
        | inl x ↦ inr (rw x.0 pf.1)
        | inr r ↦ elim r [
          | inl y ↦ elim ih.0 [ inl t ↦ inl (y.0 ∙ t) | inr g ↦ inr (rw y.0 g) ]
          | inr z ↦ ih.1 e z
        ]
      ],
    )

-- and L has the anchor with the value worked out
pub path_anchor : (hashes : List ℕ) (i u n : ℕ) (v : List ℕ) (L : List Entry) → Has n v L → ((e : Entry) → In e (path hashes i u n v) → In e L)
    → Has (ancestor u n) (risen hashes i u n v) L
unfolding ancestor path risen
path_anchor hashes i zero n v L hv f = hv
path_anchor hashes i (suc u) n v L hv f =
    path_anchor hashes (i + 1) u (n / 2) (parent_value n v (uncle hashes i)) L (f _ (there here)) (λ x y. f x (there (there y)))
