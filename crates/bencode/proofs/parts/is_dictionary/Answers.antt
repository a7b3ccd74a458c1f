-- One byte decides.
use Rattle.std.proofs.Common.{sym}
use Rattle.bencode.proofs.Finding.{dictionary_none, dictionary_byte}
use Rattle.bencode.proofs.parts.is_dictionary.Goals as goal

pub returns-then-bytes-at : goal.returns-then-bytes-at
returns-then-bytes-at c = sym (dictionary_none _ _ c.if-bytes-at.true)

pub returns : goal.returns
returns c = sym (dictionary_byte _ _ c.if-bytes-at.false)
