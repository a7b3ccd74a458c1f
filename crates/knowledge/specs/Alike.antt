-- Two memories with one store's facts and cells: what every answer about hashes rests on. Those that agree up to the store's size are alike,
-- and so are those that differ in marks.
-- Assumes nothing.
use Rattle.std.specs.Prelude.{◌≡◌, List, ℕ, ◌+◌, ◌*◌, ◌≤◌, ◌<◌, length, get_or}
use Rattle.std.proofs.Math.Path.{ap}
use Rattle.std.proofs.Common.{sym, ◌∙◌, arith, ext_get_or}
use Rattle.std.proofs.Math.Dec.{eqb}
use Rattle.octets.specs.Octets.{cut}
use Rattle.octets.specs.OctetsLaws.{cut_cut, cut_length, get_or_cut}
use Rattle.cells.specs.Cells.{held_at, hash_at}
use Rattle.store.specs.Store.{file_length, height_of, positions, store_size, Facts, SameFacts, fact_bytes}
use Rattle.store.specs.StoreLaws.{own_cells, positions_some, same_facts, facts_same}

-- two lists with the same first n bytes
pub same_front : (s t : List ℕ) (n : ℕ) → n ≤ length s → n ≤ length t → ((j : ℕ) → j < n → get_or t j 0 ≡ get_or s j 0) → cut t 0 n ≡ cut s 0 n
same_front s t n ls lt g =
    let es = cut_length s 0 n (omega arith) in
    let et = cut_length t 0 n (omega arith) in
    ext_get_or 0 (cut t 0 n) (cut s 0 n) (et ∙ sym es)
    (λ j l.
    let b : j < n = omega arith in
    let z : 0 + j ≡ j = omega arith in
    let k : (u : List ℕ) → get_or (cut u 0 n) j 0 ≡ get_or u j 0 = λ u. get_or_cut u 0 n j b ∙ ap (λ (x : ℕ). get_or u x 0) z in
    k t ∙ g j b ∙ sym (k s))

-- t names the facts of s, is usable, and has its cells
pub record Alike (s t : List ℕ) : Type 0 where
  pub same : SameFacts s t
  pub facts : Facts t
  pub held : (q : ℕ) → q < positions (height_of s) → held_at t q ≡ held_at s q
  pub hash : (q : ℕ) → q < positions (height_of s) → hash_at t q ≡ hash_at s q
  pub bytes : (i : ℕ) → i < 31 + 33 * positions (height_of s) → get_or t i 0 ≡ get_or s i 0

-- the same bytes up to the end of the cells, in a memory with room for the store, make two memories alike
module _ (s t : List ℕ) (f : Facts s) (room : store_size (file_length s) ≤ length t)
    (e : cut t 0 (31 + 33 * positions (height_of s)) ≡ cut s 0 (31 + 33 * positions (height_of s))) where
  part : (a n : ℕ) → a + n ≤ 31 + 33 * positions (height_of s) → cut t a n ≡ cut s a n
  part a n l =
      let z : 0 + a ≡ a = omega arith in
      let g : (u : List ℕ) → cut (cut u 0 (31 + 33 * positions (height_of s))) a n ≡ cut u a n = λ u. cut_cut u 0 (31 + 33 * positions (height_of s)) a n l ∙ ap (λ (x : ℕ). cut u x n) z in
      sym (g t) ∙ ap (λ (u : List ℕ). cut u a n) e ∙ g s

  byte : (i : ℕ) → i < 31 + 33 * positions (height_of s) → get_or t i 0 ≡ get_or s i 0
  byte i l =
      let z : 0 + i ≡ i = omega arith in
      let g : (u : List ℕ) → get_or (cut u 0 (31 + 33 * positions (height_of s))) i 0 ≡ get_or u i 0 = λ u. get_or_cut u 0 (31 + 33 * positions (height_of s)) i l ∙ ap (λ (x : ℕ). get_or u x 0) z in
      sym (g t) ∙ ap (λ (u : List ℕ). get_or u i 0) e ∙ g s

  named : fact_bytes t ≡ fact_bytes s
  named = part 0 64 (omega (arith, positions_some (height_of s)))

  held_as : (q : ℕ) → q < positions (height_of s) → held_at t q ≡ held_at s q
  unfolding held_at
  held_as q b = ap (λ (x : ℕ). eqb x 1) (byte (31 + 33 * q) (omega arith))

  hash_as : (q : ℕ) → q < positions (height_of s) → hash_at t q ≡ hash_at s q
  unfolding hash_at
  hash_as q b = part (32 + 33 * q) 32 (omega arith)

  pub alike_cells : Alike s t
  alike_cells = record { same = same_facts s t named; facts = facts_same s t named f room; held = held_as; hash = hash_as; bytes = byte }

-- so do the same bytes up to the store's size
module _ (s t : List ℕ) (f : Facts s) (e : cut t 0 (store_size (file_length s)) ≡ cut s 0 (store_size (file_length s))) where
  pub alike : Alike s t
  alike =
      record {
        same = Rattle.store.specs.StoreLaws.used_same s t f e;
        facts = Rattle.store.specs.StoreLaws.used_facts s t f e;
        held = Rattle.store.specs.StoreLaws.used_held s t f e;
        hash = Rattle.store.specs.StoreLaws.used_hash s t f e;
        bytes = λ i l. Rattle.store.specs.StoreLaws.byte_same s t f e i (omega (arith, own_cells s));
      }
