-- Before the list is written, and what is answered then.
-- Assumes nothing.
use Rattle.std.specs.Prelude.{◌≡◌, refl, Bool, true, false, ◌&&◌, List, ℕ, ◌-◌, ◌*◌, ◌≤◌, ◌<◌, length, take, drop, eqb}
use Rattle.std.proofs.Common.{sym, ◌∙◌, arith, lt-ltb, le-ltb, eq-eqb, ne_eqb}
use Rattle.std.proofs.lemmas.Bool.{false≢true}
use Rattle.limits.specs.Limits.{largest_torrent}
use Rattle.octets.specs.Octets.{cut, pasted}
use Rattle.numbers.specs.Numbers.{no_room, refused, done}
use Rattle.numbers.specs.declared.Answer.{Answer}
use Rattle.filetree.specs.Tree.{max_elements, files_in, listed}
use Rattle.filetree.specs.Count.{most_roots}
use Rattle.filetree.specs.Path.{path_size}
use Rattle.layers.specs.Layers.{keys_wide, layer_keys, Indexed}
use Rattle.torrent.specs.Torrent.{Checked, checked_of}
use Rattle.torrent.specs.CheckLaws.{Whole, checked_so}
use Rattle.catalogue.specs.Catalogue.{record_size, records_of, list_answer, list_after}
use Rattle.catalogue.specs.Asks.{Listable, parts_with, SpotRight}
use Rattle.catalogue.proofs.CatalogueLaws.{listing_of, whole_ready, few_files}
use Rattle.catalogue.specs.declared.record.Listing.{Listing}

module _ (t l : List ℕ) (k : Listing) (r : Listable t l k) where
  -- the keys that were gathered
  pub keys_indexed : (keys₀ keys : List ℕ) → length keys₀ ≡ most_roots → length keys ≡ length keys₀
      → (b : Bool) → b ≡ (keys_wide l && eqb (length (layer_keys l)) k.count) → (b ≡ true → take k.count keys ≡ layer_keys l) → Indexed l keys k.count
  keys_indexed keys₀ keys l₀ lk b e f =
      let all : take k.count keys ≡ layer_keys l = f (e ∙ r.keyed) in
      let wide : keys_wide l ≡ true = first (keys_wide l) (eqb (length (layer_keys l)) k.count) r.keyed in
      let fits : k.count ≤ length keys = omega (arith, r.few_layered) in
      record { opens = r.opened.opens; wide = wide; room = fits; all = all; ascending = r.opened.ascending wide keys k.count fits all }
    where
      first : (a b : Bool) → (a && b) ≡ true → a ≡ true
      first true b z = refl
      first false b z = absurd (false≢true z)

  -- the whole tree
  pub first_spot : (path out : List ℕ) → length path ≡ path_size → SpotRight (length t) (length l) (length out) path (record { list = k; at = 1; levels = max_elements; to = 0 })
  first_spot path out h =
      record {
        tree_within = r.tree_within;
        layers_within = r.layers_within;
        shallow = omega arith;
        given = record { sized = h; few = omega arith; forward = λ j g. absurd (omega arith); inside = λ j g. absurd (omega arith) };
        fits = omega arith;
        early = omega arith;
      }

module _ (s : List ℕ) (c : Checked) (e : c ≡ checked_of s) where
  pub list_refused_lem : (out : List ℕ) → (c.keys.number ≡ 0 → ⊥) → (a : Answer) → a ≡ refused c.keys.number → (a ≡ list_answer s out) × (out ≡ list_after s out)
  unfolding list_answer list_after
  list_refused_lem out h a p = rw (p, sym e, ne_eqb c.keys.number 0 h) (refl, refl)

  module _ (z : c.keys.number ≡ 0) where
    pub whole : Whole s c
    whole = checked_so s c e z

    pub list_few : c.files ≤ largest_torrent
    list_few = few_files s c whole

    abbrev t : List ℕ
    t = take (c.keys.tree.end - c.keys.tree.start) (drop c.keys.tree.start s)

    abbrev l : List ℕ
    l = take (c.keys.layers.end - c.keys.layers.start) (drop c.keys.layers.start s)

    pub list_ready : Listable t l (listing_of c)
    unfolding cut
    list_ready = whole_ready s c whole

    pub list_room : (n : ℕ) → record_size * c.files ≤ n → record_size * length (listed (files_in t)) ≤ n
    unfolding cut
    list_room n h = rw (sym whole.all_files) h

    module _ (out : List ℕ) where
      pub list_short : length out < record_size * c.files → (a : Answer) → a ≡ refused no_room → (a ≡ list_answer s out) × (out ≡ list_after s out)
      unfolding list_answer list_after
      list_short h a p = rw (p, sym e, eq-eqb c.keys.number 0 z, lt-ltb (length out) (record_size * c.files) h) (refl, refl)

      pub list_done : record_size * c.files ≤ length out → (a : Answer) → a ≡ done (record_size * c.files)
          → (out' : List ℕ) → out' ≡ pasted out 0 (records_of (parts_with t l (listing_of c)) (listed (files_in t))) → (a ≡ list_answer s out) × (out' ≡ list_after s out)
      unfolding list_answer list_after cut
      list_done h a p out' q = rw (p, q, sym e, eq-eqb c.keys.number 0 z, le-ltb (length out) (record_size * c.files) h) (refl, refl)
