use Rattle.std.proofs.Common.{ap, sym, ◌∙◌}
use Rattle.metainfo.specs.Metainfo.{integer_in}
use Rattle.metainfo.proofs.find_integer.Goals as goal

pub returns-in_err-found : goal.returns-in_err-found
returns-in_err-found c = c.from_residual.ensures ∙ sym (ap (integer_in c.args.torrent.now) (sym c.in_err-found.ensures))

pub returns : goal.returns
returns c = c.read_integer.ensures ∙ sym (ap (integer_in c.args.torrent.now) (sym c.in_ok-found.ensures))
