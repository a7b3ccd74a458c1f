use Rattle.std.proofs.Common.{rules, ap, sym, ◌∙◌}
use Rattle.metainfo.proofs.Finding.{too_large_lem, strict_keys, other_keys}
use Rattle.numbers.specs.Refusals.{refused_is_some}
use Rattle.metainfo.specs.Metainfo.{no_keys}
use Rattle.metainfo.proofs.read_keys.Goals as goal

pub returns-then-torrent-gt-LARGEST_TORRENT : goal.returns-then-torrent-gt-LARGEST_TORRENT
returns-then-torrent-gt-LARGEST_TORRENT c = sym (too_large_lem _ c.if-torrent-gt-LARGEST_TORRENT.true)

pub returns-in_err-strict : goal.returns-in_err-strict
returns-in_err-strict c =
    let w = ap no_keys c.in_err-strict.ensures ∙ sym (other_keys _ c.if-torrent-gt-LARGEST_TORRENT.false (λ z. refused_is_some _ (c.in_err-strict.ensures ∙ z))) in
    search (rules, w)

pub returns : goal.returns
returns c = c.find_keys.ensures ∙ sym (strict_keys _ c.if-torrent-gt-LARGEST_TORRENT.false (sym c.in_ok-strict.ensures))
