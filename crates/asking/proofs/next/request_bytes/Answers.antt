-- Five pieces pasted one behind the other into 49 zero bytes, behind the id.
use Rattle.asking.proofs.Answers.{bytes_are}
use Rattle.asking.proofs.next.request_bytes.Goals as goal

pub returns : goal.returns
returns c = bytes_are c.args.root c.args.header _ _ _ _ _ c.well_formed.0.1.0.1 c.put_hash.ensures c.put_number.ensures c.put_number-2.ensures c.put_number-3.ensures c.put_number-4.ensures
