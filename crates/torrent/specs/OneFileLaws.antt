-- A v1 half of one file beside a tree of one file.
-- Assumes nothing.
use Rattle.std.specs.Prelude.{◌≡◌, Bool, false, cond, ◌&&◌, ℕ, ◌+◌, ◌-◌, ◌%◌, ◌≤◌, ◌<◌, length, take, drop, eqb, leb, List, [], ◌∷◌, Option, Some, None}
use Rattle.std.proofs.Math.Path.{refl, ap}
use Rattle.std.proofs.Common.{sym, ◌∙◌, arith, mod-eq_of_lt, eq-eqb, ne_eqb, le-leb}
use Rattle.std.proofs.Math.Bool.{true, and-false}
use Rattle.std.proofs.Math.ListN.{get_or}
use Rattle.octets.specs.Octets.{cut, same}
use Rattle.filetree.specs.Tree.{Element, Listed, files_in, listed, file_number}
use Rattle.filetree.specs.PathLaws.{element_number, holds_element}
use Rattle.filetree.specs.FilesLaws.{FileRight, path_element, files_right, number_right}
use Rattle.filetree.specs.Reading.{element, elements, read_file, read_files}
use Rattle.meaning.specs.Torrent.{File}
use Rattle.halves.specs.V1Half.{V1Entry, one_file, total, same_path, files_among, same_files, on_boundary}
use Rattle.hybrid.specs.Tally.{most_bytes}
use Rattle.hybrid.specs.Half.{half_of}
use Rattle.torrent.specs.Find.{FoundFile}
use Rattle.torrent.specs.declared.one.SoughtFile.{SoughtFile}

-- ---- one file among the tree's

one_listed : (fs : List Listed) → length fs ≡ 1 → fs ≡ file_number fs 0 ∷ []
unfolding file_number
one_listed [] q = absurd (omega arith)
one_listed (g ∷ []) q = refl
one_listed (g ∷ h ∷ gs) q = absurd (omega arith)

one_element : (t : List ℕ) (p : List Element) → length p ≡ 1 → elements t p ≡ element t (element_number p 0) ∷ []
unfolding element_number
one_element t [] q = absurd (omega arith)
one_element t (g ∷ []) q = refl
one_element t (g ∷ h ∷ gs) q = absurd (omega arith)

-- another count of elements is another path
path_other : (t name : List ℕ) (p : List Element) → (length p ≡ 1 → ⊥) → same_path (name ∷ []) (elements t p) ≡ false
unfolding same_path
path_other t name [] h = refl
path_other t name (e ∷ []) h = absurd (h refl)
path_other t name (e ∷ g ∷ gs) h = and-false (same name (element t e))

-- another count of files are other files
pub count_other : (e : V1Entry) (gs : List File) → (length gs ≡ 1 → ⊥) → same_files (e ∷ []) gs ≡ false
unfolding same_files
count_other e [] h = refl
count_other e (g ∷ []) h = absurd (h refl)
count_other e (g ∷ k ∷ gs) h = ap (λ (b : Bool). eqb e.size g.size && b) (and-false (same_path e.path g.path)) ∙ and-false (eqb e.size g.size)

-- ---- the half

one_half : (plen n : ℕ) (name : List ℕ) (g : File) → 0 < plen
    → half_of plen true (one_file n name ∷ []) (g ∷ []) ≡ cond ((eqb n g.size && (same_path (name ∷ []) g.path && true)) && leb n most_bytes) (Some n) None
unfolding half_of files_among same_files on_boundary total
one_half plen n name g h =
    let z : 0 % plen ≡ 0 = mod-eq_of_lt h in
    let s : n + 0 ≡ n = omega arith in
    rw (z, s) refl

-- where the files are not the same it does not fit
pub half_other : (plen : ℕ) (ok : Bool) (es : List V1Entry) (gs : List File) → same_files (files_among es) gs ≡ false → None ≡ half_of plen ok es gs
unfolding half_of
half_other plen ok es gs e = rw e (by ok)
  where
    by : (b : Bool) → None ≡ cond (b && (false && (on_boundary plen 0 es && leb (total es) most_bytes))) (Some (total es)) None
    by true = refl
    by false = refl

pub half_bad : (plen : ℕ) (ok : Bool) (es : List V1Entry) (gs : List File) → ok ≡ false → None ≡ half_of plen ok es gs
unfolding half_of
half_bad plen ok es gs e = rw e refl

middle : (a d : Bool) (x y : Option ℕ) → cond ((a && (false && true)) && d) x y ≡ y
middle true d x y = refl
middle false d x y = refl

module _ (t path : List ℕ) (v : SoughtFile) (w : FoundFile path (file_number (listed (files_in t)) 0) v) (one : length (listed (files_in t)) ≡ 1) where
  abbrev f : Listed
  f = file_number (listed (files_in t)) 0

  file_right_lem : FileRight (length t) f
  file_right_lem = number_right (length t) (listed (files_in t)) 0 (files_right t) (omega (arith, one))

  elements_are : v.elements ≡ length f.path
  elements_are = ap (λ (z : SoughtFile). z.elements) w.place

  length_is : v.length ≡ f.size
  length_is = ap (λ (z : SoughtFile). z.length) w.place

  -- its one element stands in the tree
  held : v.elements ≡ 1 → (get_or path 0 0 ≡ (element_number f.path 0).start) × (get_or path 1 0 ≡ (element_number f.path 0).end)
  held o = let y = holds_element path (length f.path) f.path w.holds 0 (omega (arith, elements_are, o)) in (y.0, y.1)

  pub name_inside : v.elements ≡ 1 → (get_or path 0 0 ≤ get_or path 1 0) × (get_or path 1 0 ≤ length t)
  name_inside o =
      let y = held o in
      let p = path_element (length t) f.path file_right_lem.path_within 0 in
      (rw (y.0, y.1) p.0, rw y.1 p.1)

  module _ (n : ℕ) (name : List ℕ) (plen : ℕ) (h : 0 < plen) where
    half_at : half_of plen true (one_file n name ∷ []) (read_files t (listed (files_in t)))
        ≡ cond ((eqb n f.size && (same_path (name ∷ []) (elements t f.path) && true)) && leb n most_bytes) (Some n) None
    unfolding read_file
    half_at = ap (λ (fs : List Listed). half_of plen true (one_file n name ∷ []) (read_files t fs)) (one_listed (listed (files_in t)) one) ∙ one_half plen n name (read_file t f) h

    pub alone_long : (v.elements ≡ 1 → ⊥) → None ≡ half_of plen true (one_file n name ∷ []) (read_files t (listed (files_in t)))
    alone_long o =
        sym (half_at ∙ ap (λ (b : Bool). cond ((eqb n f.size && (b && true)) && leb n most_bytes) (Some n) None) (path_other t name f.path (λ q. o (elements_are ∙ q)))
        ∙ middle (eqb n f.size) (leb n most_bytes) (Some n) None)

    pub alone_size : (v.length ≡ n → ⊥) → None ≡ half_of plen true (one_file n name ∷ []) (read_files t (listed (files_in t)))
    alone_size o = sym (half_at ∙ ap (λ (b : Bool). cond ((b && (same_path (name ∷ []) (elements t f.path) && true)) && leb n most_bytes) (Some n) None) (ne_eqb n f.size (λ q. o (length_is ∙ sym q))))

    module _ (o : v.elements ≡ 1) (k : v.length ≡ n) (b : Bool) (eb : b ≡ same name (take (get_or path 1 0 - get_or path 0 0) (drop (get_or path 0 0) t))) where
      -- the paths are the same where the name is the element
      same_is : same_path (name ∷ []) (elements t f.path) ≡ b && true
      unfolding same_path cut
      same_is =
          let y = held o in
          let g : Element = element_number f.path 0 in
          let e : same name (take (get_or path 1 0 - get_or path 0 0) (drop (get_or path 0 0) t)) ≡ same name (element t g) = rw (y.0, y.1) refl in
          ap (same_path (name ∷ [])) (one_element t f.path (sym elements_are ∙ o)) ∙ ap (λ (c : Bool). c && true) (sym (eb ∙ e))

      decided : half_of plen true (one_file n name ∷ []) (read_files t (listed (files_in t))) ≡ cond ((true && ((b && true) && true)) && true) (Some n) None
      decided =
          let small = file_right_lem.small in
          half_at
          ∙ rw (eq-eqb n f.size (sym k ∙ length_is), same_is, le-leb n most_bytes (omega (arith, small, length_is, k))) refl

      pub alone_same : b ≡ true → Some n ≡ half_of plen true (one_file n name ∷ []) (read_files t (listed (files_in t)))
      alone_same q = sym (decided ∙ rw q refl)

      pub alone_other : b ≡ false → None ≡ half_of plen true (one_file n name ∷ []) (read_files t (listed (files_in t)))
      alone_other q = sym (decided ∙ rw q refl)
