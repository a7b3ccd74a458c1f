-- For each of the four keys: a search from the start finds what was found up to `at`, or else what it finds from there on, `Sought`.
use Rattle.std.proofs.Common.{arith, sym, ◌∙◌}
use Rattle.torrent.specs.KeysLaws.{sought_nowhere, sought_start, sought_stop, sought_on}
use Rattle.bencode.specs.PartsLaws.{entry_ends}
use Rattle.torrent.proofs.both.half_keys.Goals as goal

pub returns-then-not-is_dictionary : goal.returns-then-not-is_dictionary
returns-then-not-is_dictionary c = let e = sym c.is_dictionary.ensures ∙ c.if-not-is_dictionary.true in record { files = sought_nowhere _ _ e; length = sought_nowhere _ _ e; name = sought_nowhere _ _ e; pieces = sought_nowhere _ _ e }

pub loop-start-init : goal.loop-start-init
loop-start-init c = let e = sym c.is_dictionary.ensures ∙ c.if-not-is_dictionary.false in (sought_start _ _ e, sought_start _ _ e, sought_start _ _ e, sought_start _ _ e)

pub found_by-files-requires : goal.found_by-files-requires
found_by-files-requires c = let ends = entry_ends _ _ _ _ _ (sym c.in-Some.ensures) in let before_end = ends.2 in let within = ends.3 in (ends.1, omega arith)

pub found_by-length-requires : goal.found_by-length-requires
found_by-length-requires c = let ends = entry_ends _ _ _ _ _ (sym c.in-Some.ensures) in let before_end = ends.2 in let within = ends.3 in (ends.1, omega arith)

pub found_by-name-requires : goal.found_by-name-requires
found_by-name-requires c = let ends = entry_ends _ _ _ _ _ (sym c.in-Some.ensures) in let before_end = ends.2 in let within = ends.3 in (ends.1, omega arith)

pub found_by-pieces-requires : goal.found_by-pieces-requires
found_by-pieces-requires c = let ends = entry_ends _ _ _ _ _ (sym c.in-Some.ensures) in let before_end = ends.2 in let within = ends.3 in (ends.1, omega arith)

pub loop-start-smaller : goal.loop-start-smaller
loop-start-smaller c = let ends = entry_ends _ _ _ _ _ (sym c.in-Some.ensures) in let a = ends.0 in let b = ends.1 in let k = ends.2 in omega arith

pub loop-start-preserved : goal.loop-start-preserved
loop-start-preserved c = let e = sym c.in-Some.ensures in (sought_on _ _ _ _ c.loop-start.invariant.0 _ _ _ e _ c.found_by-files.ensures, sought_on _ _ _ _ c.loop-start.invariant.1 _ _ _ e _ c.found_by-length.ensures, sought_on _ _ _ _ c.loop-start.invariant.2 _ _ _ e _ c.found_by-name.ensures, sought_on _ _ _ _ c.loop-start.invariant.3 _ _ _ e _ c.found_by-pieces.ensures)

pub returns : goal.returns
returns c = let e = sym c.in_default.ensures in record { files = sought_stop _ _ _ _ c.loop-start.invariant.0 e; length = sought_stop _ _ _ _ c.loop-start.invariant.1 e; name = sought_stop _ _ _ _ c.loop-start.invariant.2 e; pieces = sought_stop _ _ _ _ c.loop-start.invariant.3 e }
