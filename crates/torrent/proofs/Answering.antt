-- What is answered, from what was checked and found.
-- Assumes nothing.
use Rattle.bencode.specs.Scalar.{part}
use Rattle.std.specs.Prelude.{◌≡◌, refl, Bool, true, false, cond, List, ℕ, ◌+◌, ◌-◌, ◌≤◌, ◌<◌, length, take, drop, Option, None}
use Rattle.std.proofs.Common.{sym, ap, ◌∙◌, arith, eq-eqb, ne_eqb, lt-ltb, le-ltb}
use Rattle.limits.specs.Limits.{largest_torrent}
use Rattle.octets.specs.Octets.{cut, zero_hash}
use Rattle.numbers.specs.Numbers.{no_such_part}
use Rattle.sha256.specs.Sha256.{sha256}
use Rattle.tree.specs.Geometry.{has_layer}
use Rattle.bencode.specs.Parts.{find_key}
use Rattle.bencode.specs.declared.part.Part.{Part}
use Rattle.sorting.proofs.Telling.{part_is}
use Rattle.filetree.specs.Tree.{right, listed, files_in, file_number}
use Rattle.layers.specs.Layers.{Inside, string_in, layer_at, root_bytes, layer_string, start_of, size_of}
use Rattle.layers.proofs.Finding.{layer_inside}
use Rattle.torrent.specs.Torrent.{PartRead, FileRead, Torrent, Checked, checked_of, no_torrent, read_of, no_file_read, file_answer, file_read, no_part_read, element_in, path_read}
use Rattle.torrent.specs.CheckLaws.{Whole, checked_so, tree_in_info}
use Rattle.torrent.specs.Find.{sought_file}
use Rattle.metainfo.specs.Metainfo.{Keys}
use Rattle.torrent.specs.declared.one.SoughtFile.{SoughtFile}

-- ---- root and layer

module _ (t : List ℕ) (n r : ℕ) where
  pub root_none : n ≡ 0 → zero_hash ≡ root_bytes t n r
  unfolding root_bytes
  root_none e = simp (eq-eqb n 0 e)

  pub root_some : (n ≡ 0 → ⊥) → cut t r 32 ≡ root_bytes t n r
  unfolding root_bytes
  root_some e = simp (ne_eqb n 0 e)

pub layer_found : (l root : List ℕ) (w : Option Part) → find_key root 0 l ≡ w → string_in l w ≡ layer_at l root
unfolding layer_at
layer_found l root w e = sym (ap (string_in l) e)

module _ (t l : List ℕ) (plen n r : ℕ) where
  pub layer_some : has_layer n plen ≡ true → (w : Option Part) → w ≡ layer_at l (take (r + 32 - r) (drop r t)) → w ≡ layer_string l plen n (cut t r 32)
  unfolding layer_string
  layer_some h w e = rw h (e ∙ ap (layer_at l) (part_is t r))

  pub layer_none : has_layer n plen ≡ false → None ≡ layer_string l plen n (cut t r 32)
  unfolding layer_string
  layer_none h = rw h refl

pub string_inside : (l : List ℕ) (plen n : ℕ) (root : List ℕ) → Inside (length l) (layer_string l plen n root)
unfolding layer_string
string_inside l plen n root = by_long (has_layer n plen)
  where
    by_long : (b : Bool) → Inside (length l) (cond b (layer_at l root) None)
    by_long true = layer_inside l root
    by_long false = tt

-- a layer that was found lies within the bytes
pub string_order : (l : List ℕ) (plen n : ℕ) (root : List ℕ) (w : Option Part) (a b : ℕ) → w ≡ layer_string l plen n root → w ≡ part a b → (a ≤ b) × (b ≤ length l)
string_order l plen n root w a b e f = rw (sym e ∙ f) at (string_inside l plen n root)

pub one_answer : (t l : List ℕ) (base plen n : ℕ) (p : SoughtFile) → p ≡ sought_file (file_number (listed (files_in t)) n) → (root : List ℕ) → root ≡ root_bytes t p.length p.root
    → (w v : Option Part) → w ≡ layer_string l plen p.length (cut t p.root 32) → w ≡ v
    → ◌≡◌ {A = FileRead} (record { number = 0; length = p.length; root = root; elements = p.elements; start = start_of base v; size = size_of v }) (file_answer t l base plen (file_number (listed (files_in t)) n))
one_answer t l base plen n p ep root er w v ew ev = rw (er, sym ev, ew, ep) refl

-- ---- answers

module _ (s : List ℕ) (c : Checked) (e : c ≡ checked_of s) where
  pub read_refused : (c.keys.number ≡ 0 → ⊥) → no_torrent c.keys.number ≡ read_of s
  unfolding read_of
  read_refused h = rw (sym e) (simp (ne_eqb c.keys.number 0 h))

  pub file_refused : (n : ℕ) → (c.keys.number ≡ 0 → ⊥) → no_file_read c.keys.number ≡ file_read s n
  unfolding file_read
  file_refused n h = rw (sym e) (simp (ne_eqb c.keys.number 0 h))

  pub path_refused : (n k : ℕ) → (c.keys.number ≡ 0 → ⊥) → no_part_read c.keys.number ≡ path_read s n k
  unfolding path_read
  path_refused n k h = rw (sym e) (simp (ne_eqb c.keys.number 0 h))

  module _ (h : c.keys.number ≡ 0) where
    pub whole : Whole s c
    whole = checked_so s c e h

    pub tree_inside : c.keys.tree.end ≤ c.keys.info.end
    tree_inside = let k = whole.keys_are in rw k (tree_in_info s (ap (λ (m : Keys). m.number) (sym k) ∙ h))

    pub read_done : (hash : List ℕ) → hash ≡ sha256 (take (c.keys.info.end - c.keys.info.start) (drop c.keys.info.start s))
        → ◌≡◌ {A = Torrent} (record { number = c.keys.number; hash = hash; plen = c.keys.plen; files = c.files }) (read_of s)
    unfolding read_of cut
    read_done hash q = rw (sym e, q) (simp (eq-eqb c.keys.number 0 h) (rw h refl))

    module _ (n : ℕ) where
      pub file_past : c.files ≤ n → no_file_read no_such_part ≡ file_read s n
      unfolding file_read
      file_past l = rw (sym e) (simp (eq-eqb c.keys.number 0 h, le-ltb n c.files l))

      pub path_past : (k : ℕ) → c.files ≤ n → no_part_read no_such_part ≡ path_read s n k
      unfolding path_read
      path_past k l = rw (sym e) (simp (eq-eqb c.keys.number 0 h, le-ltb n c.files l))

      abbrev t : List ℕ
      t = take (c.keys.tree.end - c.keys.tree.start) (drop c.keys.tree.start s)

      abbrev l : List ℕ
      l = take (c.keys.layers.end - c.keys.layers.start) (drop c.keys.layers.start s)

      module _ (g : n < c.files) where
        pub file_asked : (right (files_in t) ≡ true) × (n < length (listed (files_in t))) × (c.keys.layers.start + length l ≤ largest_torrent)
        unfolding cut
        file_asked =
            let w = whole in
            let x = w.all_files in
            let a = w.opened.layers_size in
            let b = w.opened.layers_forward in
            let d = w.opened.layers_within in
            let f = w.opened.small in
            (w.tree_right_lem, omega arith, omega arith)

        pub path_asked : (right (files_in t) ≡ true) × (n < length (listed (files_in t))) × (c.keys.tree.start + length t ≤ largest_torrent)
        unfolding cut
        path_asked =
            let w = whole in
            let x = w.all_files in
            let a = w.opened.tree_size in
            let b = w.opened.tree_forward in
            let d = w.opened.tree_within in
            let f = w.opened.small in
            (w.tree_right_lem, omega arith, omega arith)

        pub file_done : (r : FileRead) → r ≡ file_answer t l c.keys.layers.start c.keys.plen (file_number (listed (files_in t)) n) → r ≡ file_read s n
        unfolding file_read cut
        file_done r q = q ∙ rw (sym e) (simp (eq-eqb c.keys.number 0 h, lt-ltb n c.files g))

        pub path_done : (k : ℕ) (r : PartRead) → r ≡ element_in c.keys.tree.start (file_number (listed (files_in t)) n).path k → r ≡ path_read s n k
        unfolding path_read cut
        path_done k r q = q ∙ rw (sym e) (simp (eq-eqb c.keys.number 0 h, lt-ltb n c.files g))
