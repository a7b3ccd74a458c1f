-- What is answered, from what was checked and found.
-- Assumes nothing.
use Rattle.bencode.specs.Scalar.{part}
use Rattle.std.specs.Prelude.{◌≡◌, refl, List, ℕ, ◌-◌, ◌≤◌, length, drop, Option, Some, None}
use Rattle.std.proofs.Common.{sym, ap, ◌∙◌, eq-eqb, ne_eqb}
use Rattle.bencode.specs.Scalar.{read_string}
use Rattle.bencode.specs.Parts.{find_key}
use Rattle.bencode.specs.EndsLaws.{string_ends}
use Rattle.bencode.specs.declared.part.Part.{Part}
use Rattle.writer_meaning.specs.Content.{key_name}
use Rattle.layers.specs.Layers.{Inside, string_in}
use Rattle.torrent.specs.Torrent.{PartRead, Checked, checked_of, no_part_read}
use Rattle.torrent.specs.CheckLaws.{checked_so}
use Rattle.about.specs.About.{content_part, name_from, info_read, name_read}

pub name_found : (s : List ℕ) (at : ℕ) (w : Option Part) → find_key key_name at (drop at s) ≡ w → string_in s w ≡ name_from s at
unfolding name_from
name_found s at w e = sym (ap (string_in s) e)

-- a name lies within the bytes
name_inside : (s : List ℕ) (at : ℕ) → Inside (length s) (name_from s at)
unfolding name_from
name_inside s at = by_found (find_key key_name at (drop at s))
  where
    by_string : (a : ℕ) (w : Option Part) → read_string a (drop a s) ≡ w → Inside (length s) w
    by_string a None e = tt
    by_string a (Some w) e = let p = string_ends a s w.start w.end e in (p.1, p.2)

    by_found : (w : Option Part) → Inside (length s) (string_in s w)
    by_found None = tt
    by_found (Some w) = by_string w.start (read_string w.start (drop w.start s)) refl

pub name_order : (s : List ℕ) (at : ℕ) (w : Option Part) (a b : ℕ) → w ≡ name_from s at → w ≡ part a b → (a ≤ b) × (b ≤ length s)
name_order s at w a b e f = rw (sym e ∙ f) at (name_inside s at)

module _ (s : List ℕ) (c : Checked) (e : c ≡ checked_of s) where
  pub info_refused : (c.keys.number ≡ 0 → ⊥) → no_part_read c.keys.number ≡ info_read s
  unfolding info_read
  info_refused h = rw (sym e) (simp (ne_eqb c.keys.number 0 h))

  pub name_refused : (c.keys.number ≡ 0 → ⊥) → no_part_read c.keys.number ≡ name_read s
  unfolding name_read
  name_refused h = rw (sym e) (simp (ne_eqb c.keys.number 0 h))

  module _ (h : c.keys.number ≡ 0) where
    pub info_order : c.keys.info.start ≤ c.keys.info.end
    info_order = (checked_so s c e h).opened.info_forward

    pub info_done : ◌≡◌ {A = PartRead} (record { number = c.keys.number; start = c.keys.info.start; size = c.keys.info.end - c.keys.info.start }) (info_read s)
    unfolding info_read
    info_done = rw (sym e) (simp (eq-eqb c.keys.number 0 h) (rw h refl))

    pub name_done : (w v : Option Part) → w ≡ name_from s c.keys.info.start → w ≡ v → content_part v ≡ name_read s
    unfolding name_read
    name_done w v f g = rw (sym e) (simp (eq-eqb c.keys.number 0 h) (ap content_part (sym g ∙ f)))
