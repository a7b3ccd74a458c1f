use Rattle.std.proofs.Common.{length-take-le, arith, ℕ, ◌-◌, length, take, replicate, ◌≡◌, refl, ap, ◌∙◌}
use Rattle.octets.specs.Octets.{pasted}
use Rattle.octets.specs.OctetsLaws.{pasted_length}
use Rattle.padding.proofs.Putting.{filled_law}
use Rattle.padding.proofs.filled.Goals as goal

pub put-requires-2 : goal.put-requires-2
put-requires-2 c = let e : 64 ≡ length {A = ℕ} (replicate 64 0) = refl in (c.requires, ap length c.put.ensures ∙ pasted_length (replicate 64 0) 0 (take (c.args.have - 0) c.args.tail) (omega (arith, length-take-le (c.args.have - 0) c.args.tail (omega (arith, c.well_formed.0.1.0.1)))))

pub returns : goal.returns
returns c = filled_law c.args.tail c.args.bytes.now c.put.new.b c.put-2.new.b c.args.have c.well_formed.0.1.0.1 c.requires (c.put.ensures ∙ (let e : c.args.have - 0 ≡ c.args.have = omega arith in ap (λ (k : ℕ). pasted (replicate 64 0) 0 (take k c.args.tail)) e)) c.put-2.ensures
