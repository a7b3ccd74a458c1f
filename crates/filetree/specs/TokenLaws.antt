-- Where tokens lie, for callers that go on from them.
-- Assumes nothing.
use Rattle.std.specs.Prelude.{◌≡◌, refl, Bool, true, false, cond, List, ℕ, ◌+◌, ◌-◌, ◌≤◌, ◌<◌, length, drop, eqb, Option, Some, None, Err, Ok, Result}
use Rattle.filetree.specs.File.{right_file}
use Rattle.bencode.specs.declared.walk.Amiss.{Amiss}
use Rattle.std.proofs.Math.Bool.{false≢true}
use Rattle.std.proofs.Common.{arith, drop_of_length-le}
use Rattle.std.proofs.Math.Decide.{dec_lt}
use Rattle.octets.specs.Octets.{cut}
use Rattle.limits.specs.Limits.{longest_file, max_levels}
use Rattle.bencode.specs.Scalar.{read_string, read_number}
use Rattle.bencode.specs.Walk.{walk_value}
use Rattle.bencode.specs.Parts.{is_dictionary}
use Rattle.bencode.specs.EndsLaws.{string_ends, value_ends}
use Rattle.bencode.proofs.Finding.{dictionary_within}
use Rattle.bencode.specs.declared.part.Part.{Part}
use Rattle.filetree.specs.File.{file_at}
use Rattle.filetree.specs.SizeLaws.{file_small, full_size}
use Rattle.meaning.specs.Torrent.{element_right}
use Rattle.filetree.specs.Token.{ends_here, behind_file, past_file, with_file, file_token, first_key, node_token, key_token, token_at, opened_token, closed_token, leaf_token}
use Rattle.filetree.specs.declared.file.File.{File}
use Rattle.filetree.specs.declared.token.Token.{Token}
use Rattle.filetree.specs.declared.token.Token.TheVariants.{Opened, Closed, Leaf}

-- where something ends there is a byte
pub ends_inside : (s : List ℕ) (i : ℕ) → ends_here (drop i s) ≡ true → i < length s
unfolding ends_here
ends_inside s i e = by_length (dec_lt i (length s))
  where
    by_length : Dec (i < length s) → i < length s
    by_length (yes h) = h
    by_length (no g) = absurd (false≢true (rw (drop_of_length-le s {i = i} (omega arith)) at e))

-- a path element is not empty
pub element_some : (s : List ℕ) (a b : ℕ) → element_right (cut s a (b - a)) ≡ true → a ≡ b → ⊥
element_some s a b e h = let z : b - a ≡ 0 = omega arith in none (rw z at e)
  where
    none : element_right (cut s a 0) ≡ true → ⊥
    none q = unfold element_right cut in false≢true q

-- a file that is not empty takes at least 64 bytes, 32 of them its root
abbrev pub Takes : ℕ → ℕ → ℕ → ℕ → ℕ → Type 0
Takes at end n r k = (n ≡ 0 → ⊥) → (at + 64 ≤ k) × (r + 32 ≤ end)

-- a token from `at` on lies behind it, within the bytes
abbrev pub TokenIn : ℕ → ℕ → Option Token → Type 0
TokenIn at end None = Unit {0}
TokenIn at end (Some Closed) = at < end
TokenIn at end (Some (Opened a b)) = (at < b) × (b < end) × (a ≤ b)
TokenIn at end (Some (Leaf a b n r k)) = (at < k) × (k ≤ end) × Takes at end n r k × (n ≤ longest_file) × (a ≤ b) × (b ≤ end)

past_in : (s : List ℕ) (at a b n r x : ℕ) → (a ≤ b) × (b ≤ length s) → file_at s x ≡ right_file n r → at + 4 ≤ x → TokenIn at (length s) (past_file s a b n r x)
unfolding past_file
past_in s at a b n r x o f h = by_walk (walk_value max_levels x (drop x s)) refl
  where
    by_end : (k : ℕ) → walk_value max_levels x (drop x s) ≡ Ok k → (t : Bool) → ends_here (drop k s) ≡ t → TokenIn at (length s) (cond t (leaf_token a b n r (k + 1)) None)
    by_end k q true e =
        let below = ends_inside s k e in
        let g = (value_ends max_levels x s k q).0 in
        (omega arith, omega arith, (λ nz. let z = full_size s x k n r q f nz in let u = z.0 in (omega arith, z.1)), file_small s x n r f, o.0, o.1)
    by_end k q false e = tt

    by_walk : (w : Result ℕ Amiss) → walk_value max_levels x (drop x s) ≡ w → TokenIn at (length s) (behind_file s a b n r w)
    by_walk (Err e) q = tt
    by_walk (Ok k) q = by_end k q (ends_here (drop k s)) refl

file_in : (s : List ℕ) (at a b x : ℕ) → (a ≤ b) × (b ≤ length s) → at + 4 ≤ x → TokenIn at (length s) (file_token s a b x)
unfolding file_token
file_in s at a b x o h = by_file (file_at s x) refl
  where
    by_file : (w : Option File) → file_at s x ≡ w → TokenIn at (length s) (with_file s a b x w)
    by_file None f = tt
    by_file (Some w) f = past_in s at a b w.length w.root x o f h

first_in : (s : List ℕ) (at a b : ℕ) → a ≤ b → at + 2 ≤ b → b < length s → (w : Option Part) → read_string (b + 1) (drop (b + 1) s) ≡ w → TokenIn at (length s) (first_key s a b w)
first_in s at a b o h l None e = tt
first_in s at a b o h l (Some w) e = by_empty (eqb w.start w.end)
  where
    by_empty : (t : Bool) → TokenIn at (length s) (cond t (file_token s a b w.end) (opened_token a b))
    by_empty true = let p = string_ends (b + 1) s w.start w.end e in let u = p.0 in let v = p.1 in file_in s at a b w.end (o, omega arith) (omega arith)
    by_empty false = (omega arith, l, o)

node_in : (s : List ℕ) (at a b : ℕ) → a ≤ b → at + 2 ≤ b → TokenIn at (length s) (node_token s a b)
unfolding node_token
node_in s at a b o h = by_kind (is_dictionary (drop b s)) refl
  where
    by_end : b < length s → (t : Bool) → TokenIn at (length s) (cond t None (first_key s a b (read_string (b + 1) (drop (b + 1) s))))
    by_end l true = tt
    by_end l false = first_in s at a b o h l (read_string (b + 1) (drop (b + 1) s)) refl

    by_kind : (t : Bool) → is_dictionary (drop b s) ≡ t → TokenIn at (length s) (cond t (cond (ends_here (drop (b + 1) s)) None (first_key s a b (read_string (b + 1) (drop (b + 1) s)))) None)
    by_kind true e = by_end (dictionary_within s b e) (ends_here (drop (b + 1) s))
    by_kind false e = tt

pub token_in : (s : List ℕ) (at : ℕ) → TokenIn at (length s) (token_at s at)
unfolding token_at
token_in s at = by_end (ends_here (drop at s)) refl
  where
    by_key : (w : Option Part) → read_string at (drop at s) ≡ w → TokenIn at (length s) (key_token s w)
    by_key None e = tt
    by_key (Some w) e = by_element (element_right (cut s w.start (w.end - w.start))) refl
      where
        by_element : (t : Bool) → element_right (cut s w.start (w.end - w.start)) ≡ t → TokenIn at (length s) (cond t (node_token s w.start w.end) None)
        by_element false q = tt
        by_element true q =
            let p = string_ends at s w.start w.end e in
            let u = p.0 in
            let v = p.1 in
            let other : (w.start ≡ w.end → ⊥) = element_some s w.start w.end q in
            node_in s at w.start w.end v (omega arith)

    by_end : (t : Bool) → ends_here (drop at s) ≡ t → TokenIn at (length s) (cond t closed_token (key_token s (read_string at (drop at s))))
    by_end true e = ends_inside s at e
    by_end false e = by_key (read_string at (drop at s)) refl

pub opened_ends : (s : List ℕ) (at a b : ℕ) → token_at s at ≡ opened_token a b → (at < b) × (b < length s) × (a ≤ b)
opened_ends s at a b e = rw e at (token_in s at)

pub leaf_ends : (s : List ℕ) (at a b n r k : ℕ) → token_at s at ≡ leaf_token a b n r k → (at < k) × (k ≤ length s) × Takes at (length s) n r k × (n ≤ longest_file) × (a ≤ b) × (b ≤ length s)
leaf_ends s at a b n r k e = rw e at (token_in s at)

-- what ends further on leaves fewer bytes behind it
pub fewer_behind : (n at k : ℕ) → at < k → k ≤ n → n - k < n - at
fewer_behind n at k l h = omega arith

pub leaf_fewer : (s : List ℕ) (at a b n r k : ℕ) → token_at s at ≡ leaf_token a b n r k → length s - k < length s - at
leaf_fewer s at a b n r k e = let ends = leaf_ends s at a b n r k e in fewer_behind (length s) at k ends.0 ends.1

-- past the end there is none
pub token_none : (s : List ℕ) (at : ℕ) → length s ≤ at → token_at s at ≡ None
unfolding token_at ends_here read_number
token_none s at h = rw (drop_of_length-le s {i = at} h) refl
