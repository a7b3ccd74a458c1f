-- By the levels left: a value asks for its items or entries with a level less, these for their values with the
-- same. The loops have come to i: what is left from there gives what the whole gives, `ListAt` and `DictionaryAt`.
use Rattle.std.proofs.Common.{length, ◌+◌, ◌-◌}
use Rattle.bencode.proofs.Walking.{ListAt, DictionaryAt}
use Rattle.bencode.specs.Scalar.{Within}
use Rattle.bencode.specs.Walk.{walk_value, key_before}
use Rattle.bencode.proofs.walk.+dictionary_end_list_end_value_end.Given as goal

abbrev pub decreases-dictionary_end : goal.decreases-dictionary_end
decreases-dictionary_end l = l.levels + l.levels + 1

abbrev pub decreases-list_end : goal.decreases-list_end
decreases-list_end l = l.levels + l.levels + 1

abbrev pub decreases-value_end : goal.decreases-value_end
decreases-value_end l = l.levels + l.levels

abbrev pub invariant-dictionary_end-loop-i : goal.invariant-dictionary_end-loop-i
invariant-dictionary_end-loop-i l =
    DictionaryAt (walk_value l.levels) l.bytes l.initial.i l.i (key_before l.before l.bytes) × Within (length l.bytes) l.before

abbrev pub decreases-dictionary_end-loop-i : goal.decreases-dictionary_end-loop-i
decreases-dictionary_end-loop-i l = length l.bytes - l.i

abbrev pub invariant-list_end-loop-i : goal.invariant-list_end-loop-i
invariant-list_end-loop-i l = ListAt (walk_value l.levels) l.bytes l.initial.i l.i

abbrev pub decreases-list_end-loop-i : goal.decreases-list_end-loop-i
decreases-list_end-loop-i l = length l.bytes - l.i
