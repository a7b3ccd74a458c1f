use Rattle.std.proofs.Common.{length}
use Rattle.torrent.specs.HalvesFitLaws.{plen_range, no_pieces, other_pieces, pieces_misfit, pieces_many, pieces_counted}
use Rattle.halves.specs.V1Keys.{key_pieces}
use Rattle.torrent.proofs.both.halves_fit.Goals as goal

pub half-requires : goal.half-requires
half-requires c = let found = c.half_keys-keys.ensures in ((plen_range _ c.requires.0).0, c.requires.1, c.requires.2, c.requires.3, found.files, found.length, found.name)

pub returns-then-count-gt-LARGEST_TORRENT : goal.returns-then-count-gt-LARGEST_TORRENT
returns-then-count-gt-LARGEST_TORRENT c = let w = (c.in-Text.ensures key_pieces c.half_keys-keys.ensures.pieces) in pieces_many _ _ c.requires.0 _ c.requires.1 _ _ w _ c.half.ensures _ c.in-Some.is _ c.piece_count-count.ensures c.if-count-gt-LARGEST_TORRENT.true

pub overflow_sub-result : goal.overflow_sub-result
overflow_sub-result c = let w = (c.in-Text.ensures key_pieces c.half_keys-keys.ensures.pieces) in w.ends.0

pub returns-in-NoKey : goal.returns-in-NoKey
returns-in-NoKey c = let w = (c.in-NoKey.ensures key_pieces c.half_keys-keys.ensures.pieces) in no_pieces _ _ c.requires.0 _ w

pub returns-in-OtherType : goal.returns-in-OtherType
returns-in-OtherType c = let w = (c.in-OtherType.ensures key_pieces c.half_keys-keys.ensures.pieces) in other_pieces _ _ c.requires.0 _ w

pub returns-in-None : goal.returns-in-None
returns-in-None c = let w = (c.in-Text.ensures key_pieces c.half_keys-keys.ensures.pieces) in pieces_misfit _ _ c.requires.0 _ c.requires.1 _ _ w _ c.half.ensures c.in-None.is

pub returns-else-count-gt-LARGEST_TORRENT : goal.returns-else-count-gt-LARGEST_TORRENT
returns-else-count-gt-LARGEST_TORRENT c = let w = (c.in-Text.ensures key_pieces c.half_keys-keys.ensures.pieces) in pieces_counted _ _ c.requires.0 _ c.requires.1 _ _ w _ c.half.ensures _ c.in-Some.is _ c.piece_count-count.ensures
