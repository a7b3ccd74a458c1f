-- Each refusal with its number in 01's table, and the answer that an outcome makes.
-- Assumes nothing.
use Rattle.std.specs.Prelude.{◌≡◌, ℕ, ⊤, Result, Ok, Err}
use Rattle.std.proofs.Common.{arith}
use Rattle.numbers.specs.Numbers as N
use Rattle.numbers.specs.declared.Answer.{Answer}
use Rattle.numbers.specs.declared.Refused.{Refused}
use Rattle.numbers.specs.declared.Refused.TheVariants.{NoMessage, OtherRoot, RuleBroken, WrongSize, WrongPadding, NoAnchor, Differs, Conflict, Unusable, FactsOutOfRange, NoRoom, NotHeld, TorrentTooLarge, NotStrict, NestedTooDeeply, KeyMissing, OtherVersion, PieceLengthOutOfRange, WrongTree, TwoLengths, LayersAmiss, LayerDiffers, NoSuchPart, FrameTooLong, HalvesDiffer, NotSaved}

abbrev pub number_of : Refused → ℕ
number_of NoMessage = N.no_message
number_of OtherRoot = N.other_root
number_of RuleBroken = N.rule_broken
number_of WrongSize = N.wrong_size
number_of WrongPadding = N.wrong_padding
number_of NoAnchor = N.no_anchor
number_of Differs = N.differs
number_of Conflict = N.conflict
number_of Unusable = N.unusable
number_of FactsOutOfRange = N.facts_out_of_range
number_of NoRoom = N.no_room
number_of NotHeld = N.not_held
number_of TorrentTooLarge = N.torrent_too_large
number_of NotStrict = N.not_strict
number_of NestedTooDeeply = N.nested_too_deeply
number_of KeyMissing = N.key_missing
number_of OtherVersion = N.other_version
number_of PieceLengthOutOfRange = N.piece_length_out_of_range
number_of WrongTree = N.wrong_tree
number_of TwoLengths = N.two_lengths
number_of LayersAmiss = N.layers_amiss
number_of LayerDiffers = N.layer_differs
number_of NoSuchPart = N.no_such_part
number_of FrameTooLong = N.frame_too_long
number_of HalvesDiffer = N.halves_differ
number_of NotSaved = N.not_saved

-- the number and the count that C gets
abbrev pub answer_of : Result ℕ Refused → Answer
answer_of (Ok count) = N.done count
answer_of (Err why) = N.refused (number_of why)

-- the number alone, 0 where nothing is refused
abbrev pub code_of : Result ⊤ Refused → ℕ
code_of (Ok _) = 0
code_of (Err why) = number_of why

-- no refusal has the number 0
pub refused_is_some : (why : Refused) → number_of why ≡ 0 → ⊥
refused_is_some NoMessage h = omega (arith, h)
refused_is_some OtherRoot h = omega (arith, h)
refused_is_some RuleBroken h = omega (arith, h)
refused_is_some WrongSize h = omega (arith, h)
refused_is_some WrongPadding h = omega (arith, h)
refused_is_some NoAnchor h = omega (arith, h)
refused_is_some Differs h = omega (arith, h)
refused_is_some Conflict h = omega (arith, h)
refused_is_some Unusable h = omega (arith, h)
refused_is_some FactsOutOfRange h = omega (arith, h)
refused_is_some NoRoom h = omega (arith, h)
refused_is_some NotHeld h = omega (arith, h)
refused_is_some TorrentTooLarge h = omega (arith, h)
refused_is_some NotStrict h = omega (arith, h)
refused_is_some NestedTooDeeply h = omega (arith, h)
refused_is_some KeyMissing h = omega (arith, h)
refused_is_some OtherVersion h = omega (arith, h)
refused_is_some PieceLengthOutOfRange h = omega (arith, h)
refused_is_some WrongTree h = omega (arith, h)
refused_is_some TwoLengths h = omega (arith, h)
refused_is_some LayersAmiss h = omega (arith, h)
refused_is_some LayerDiffers h = omega (arith, h)
refused_is_some NoSuchPart h = omega (arith, h)
refused_is_some FrameTooLong h = omega (arith, h)
refused_is_some HalvesDiffer h = omega (arith, h)
refused_is_some NotSaved h = omega (arith, h)
