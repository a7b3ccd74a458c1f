use Rattle.std.proofs.Common.{sym, ◌∙◌, rules}
use Rattle.writer_order.specs.NumberLaws.{no_bytes, some_bytes, is_large, is_deep, is_out_of_range, has_none, is_meeting, has_wrong, by_roots}
use Rattle.writer_lists.specs.Lists.{content_of}
use Rattle.writer_meaning.specs.Number.{too_deep, wrong_item}
use Rattle.writer_order.proofs.number.alone.Goals as goal

pub returns-then-size-gt-LARGEST_TORRENT : goal.returns-then-size-gt-LARGEST_TORRENT
returns-then-size-gt-LARGEST_TORRENT c = let l = c.args.list.now in let t = c.args.text.now in let p = c.args.plen in λ name r e h.
    is_large p name (content_of l t) c.args.size e c.if-size-gt-LARGEST_TORRENT.true

pub returns-then-one_fails : goal.returns-then-one_fails
returns-then-one_fails c = let l = c.args.list.now in let t = c.args.text.now in let p =
    c.args.plen in λ name r e h. is_deep p name (content_of l t) c.args.size e c.if-size-gt-LARGEST_TORRENT.false
    (sym (c.one_fails.ensures too_deep (λ p r m e. search rules)) ∙ c.if-one_fails.true)

pub returns-then-not-is_piece_length : goal.returns-then-not-is_piece_length
returns-then-not-is_piece_length c = let l = c.args.list.now in let t = c.args.text.now in let p =
    c.args.plen in λ name r e h. is_out_of_range p name (content_of l t) c.args.size e c.if-size-gt-LARGEST_TORRENT.false
    (sym (c.one_fails.ensures too_deep (λ p r m e. search rules)) ∙ c.if-one_fails.false)
    (sym c.is_piece_length.ensures ∙ c.if-not-is_piece_length.true)

pub returns-then-list-eq0 : goal.returns-then-list-eq0
returns-then-list-eq0 c = let l = c.args.list.now in let t = c.args.text.now in
    let p = c.args.plen in λ name r e h. has_none p name (content_of l t) c.args.size e
    c.if-size-gt-LARGEST_TORRENT.false
    (sym (c.one_fails.ensures too_deep (λ p r m e. search rules)) ∙ c.if-one_fails.false)
    (sym c.is_piece_length.ensures ∙ c.if-not-is_piece_length.false) (no_bytes l t c.if-list-eq0.true)

pub returns-then-meets : goal.returns-then-meets
returns-then-meets c = let l = c.args.list.now in let t =
    c.args.text.now in let p = c.args.plen in λ name r e h. is_meeting p name (content_of l t) c.args.size e
    c.if-size-gt-LARGEST_TORRENT.false
    (sym (c.one_fails.ensures too_deep (λ p r m e. search rules)) ∙ c.if-one_fails.false)
    (sym c.is_piece_length.ensures ∙ c.if-not-is_piece_length.false)
    (some_bytes l t c.requires.0 c.if-list-eq0.false) (sym c.requires.1 ∙ c.if-meets.true)

pub returns-then-one_fails-2 : goal.returns-then-one_fails-2
returns-then-one_fails-2 c = let l = c.args.list.now in let
    t = c.args.text.now in let p = c.args.plen in λ name r e h. has_wrong p name (content_of l t) c.args.size e
    c.if-size-gt-LARGEST_TORRENT.false
    (sym (c.one_fails.ensures too_deep (λ p r m e. search rules)) ∙
    c.if-one_fails.false)
    (sym c.is_piece_length.ensures ∙ c.if-not-is_piece_length.false) (some_bytes l t c.requires.0 c.if-list-eq0.false)
    (sym c.requires.1 ∙ c.if-meets.false) (sym (c.one_fails-2.ensures wrong_item (λ p r m e. search rules)) ∙ c.if-one_fails-2.true)

pub returns : goal.returns
returns c = let l = c.args.list.now in let
    t = c.args.text.now in let p = c.args.plen in λ name r e h. by_roots p name (content_of l t) c.args.size e
    c.if-size-gt-LARGEST_TORRENT.false
    (sym (c.one_fails.ensures too_deep (λ p r m e. search rules)) ∙
    c.if-one_fails.false)
    (sym c.is_piece_length.ensures ∙ c.if-not-is_piece_length.false) (some_bytes l t c.requires.0 c.if-list-eq0.false)
    (sym c.requires.1 ∙ c.if-meets.false) (sym (c.one_fails-2.ensures wrong_item (λ p r m e. search rules)) ∙ c.if-one_fails-2.false) r
    (h c.if-size-gt-LARGEST_TORRENT.false
    (sym c.is_piece_length.ensures ∙ c.if-not-is_piece_length.false))
