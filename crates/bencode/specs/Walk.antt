-- The walk over one value, from the left: the position past it, or what is wrong first. `at` is where the bytes `xs` stand in the whole input.
-- Assumes nothing.
use Rattle.bencode.specs.declared.walk.Amiss.{Amiss}
use Rattle.bencode.specs.declared.walk.Amiss.TheVariants.{Broken, TooDeep}
use Rattle.std.specs.Prelude.{cond, List, [], ◌∷◌, ℕ, zero, suc, ◌+◌, ◌-◌, length, drop, eqb, Option, Some, None, Err, Ok, Result}
use Rattle.octets.specs.Octets.{cut}
use Rattle.bencode.specs.Grammar.{letter_d, letter_e, letter_i, letter_l, KeyBefore, none, after, ascends}
use Rattle.bencode.specs.Scalar.{read_string, read_signed}
use Rattle.bencode.specs.declared.part.Part.{Part}
use Rattle.bencode.specs.declared.scalar.Integer.{Integer}

-- the position past an integer
abbrev pub past_integer : Option Integer → Result ℕ Amiss
past_integer None = Err Broken
past_integer (Some w) = Ok w.next

-- the position past a string
abbrev pub past_string : Option Part → Result ℕ Amiss
past_string None = Err Broken
past_string (Some w) = Ok w.end

-- what follows, from the position that was reached
abbrev pub onward : Result ℕ Amiss → (ℕ → Result ℕ Amiss) → Result ℕ Amiss
onward (Err e) go = Err e
onward (Ok k) go = go k

-- what follows a key, from where its bytes are
abbrev pub with_key : Option Part → (ℕ → ℕ → Result ℕ Amiss) → Result ℕ Amiss
with_key None go = Err Broken
with_key (Some p) go = go p.start p.end

-- the end at an `e`, else w
unfoldable pub end_or : ℕ → List ℕ → Result ℕ Amiss → Result ℕ Amiss
end_or at [] w = Err Broken
end_or at (c ∷ cs) w = cond (eqb c letter_e) (Ok (at + 1)) w

-- the bytes from a to b
abbrev pub between : ℕ → List ℕ → ℕ → ℕ → List ℕ
between at xs a b = cut xs (a - at) (b - a)

-- a string that stands after the key before
abbrev pub in_order : KeyBefore → ℕ → List ℕ → Option Part → Option Part
in_order j at xs None = None
in_order j at xs (Some w) = cond (ascends j (between at xs w.start w.end)) (Some w) None

-- a key: a string that stands after the key before
abbrev pub read_key : KeyBefore → ℕ → List ℕ → Option Part
read_key j at xs = in_order j at xs (read_string at xs)

-- the key before, as the code keeps it: where its bytes are, if there was one
abbrev pub key_before : Option Part → List ℕ → KeyBefore
key_before None s = none
key_before (Some p) s = after (cut s p.start (p.end - p.start))

-- values up to an `e`, read by `value`; each takes a byte, so that more steps than bytes are enough
unfoldable pub walk_items : (ℕ → List ℕ → Result ℕ Amiss) → ℕ → ℕ → List ℕ → Result ℕ Amiss
walk_items value zero at xs = Err Broken
walk_items value (suc steps) at xs = end_or at xs (onward (value at xs) (λ k. walk_items value steps k (drop (k - at) xs)))

-- keys, each with a value, up to an `e`
unfoldable pub walk_entries : (ℕ → List ℕ → Result ℕ Amiss) → ℕ → KeyBefore → ℕ → List ℕ → Result ℕ Amiss
walk_entries value zero j at xs = Err Broken
walk_entries value (suc steps) j at xs =
    end_or at xs
    (with_key (read_key j at xs)
    (λ a b.
    onward (value b (drop (b - at) xs))
    (λ k. walk_entries value steps (after (between at xs a b)) k (drop (k - at) xs))))

-- a list past its `l`
abbrev pub walk_list : (ℕ → List ℕ → Result ℕ Amiss) → ℕ → List ℕ → Result ℕ Amiss
walk_list value at xs = walk_items value (suc (length xs)) at xs

-- a dictionary past its `d`
abbrev pub walk_dictionary : (ℕ → List ℕ → Result ℕ Amiss) → ℕ → List ℕ → Result ℕ Amiss
walk_dictionary value at xs = walk_entries value (suc (length xs)) none at xs

-- by the first byte: an integer, a list, a dictionary, or else a string
unfoldable pub by_first : ℕ → List ℕ → Result ℕ Amiss → Result ℕ Amiss → Result ℕ Amiss
by_first at [] in_list in_dictionary = Err Broken
by_first at (c ∷ cs) in_list in_dictionary =
    cond (eqb c letter_i) (past_integer (read_signed (at + 1) cs))
    (cond (eqb c letter_l) in_list (cond (eqb c letter_d) in_dictionary (past_string (read_string at (c ∷ cs)))))

-- one value, with so many levels left
unfoldable pub walk_value : ℕ → ℕ → List ℕ → Result ℕ Amiss
walk_value zero at xs = by_first at xs (Err TooDeep) (Err TooDeep)
walk_value (suc levels) at xs =
    by_first at xs (walk_list (walk_value levels) (at + 1) (drop 1 xs)) (walk_dictionary (walk_value levels) (at + 1) (drop 1 xs))
