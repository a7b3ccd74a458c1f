-- A dictionary whose walk ends where the bytes end.
use Rattle.std.proofs.Common.{eq-eqb, ne_eqb, ap, sym, ◌∙◌, length, Err}
use Rattle.bencode.specs.Strict.{whole_walk}
use Rattle.bencode.specs.declared.walk.Amiss.{Amiss}
use Rattle.bencode.proofs.Walking.{strict_empty, strict_other, strict_dictionary}
use Rattle.bencode.proofs.walk.strict.Goals as goal

pub returns-then-bytes-eq0 : goal.returns-then-bytes-eq0
returns-then-bytes-eq0 c = sym (strict_empty _ c.if-bytes-eq0.true)

pub returns-then-bytes-ne100 : goal.returns-then-bytes-ne100
returns-then-bytes-ne100 c = sym (strict_other _ c.if-bytes-ne100.true)

pub returns-in-Err-Broken : goal.returns-in-Err-Broken
returns-in-Err-Broken c = sym (strict_dictionary _ _ c.if-bytes-ne100.false (sym c.in-Err-Broken.ensures) ∙ ap (λ (e : Amiss). whole_walk (length c.args.bytes.now) (Err e)) c.in-Err-Broken.field-0-is)

pub returns-in-Err-TooDeep : goal.returns-in-Err-TooDeep
returns-in-Err-TooDeep c = sym (strict_dictionary _ _ c.if-bytes-ne100.false (sym c.in-Err-TooDeep.ensures) ∙ ap (λ (e : Amiss). whole_walk (length c.args.bytes.now) (Err e)) c.in-Err-TooDeep.field-0-is)

pub returns-then-k-bytes : goal.returns-then-k-bytes
returns-then-k-bytes c = sym (strict_dictionary _ _ c.if-bytes-ne100.false (sym c.in-Ok.ensures) ∙ simp (eq-eqb _ _ c.if-k-bytes.true))

pub returns-else-k-bytes : goal.returns-else-k-bytes
returns-else-k-bytes c = sym (strict_dictionary _ _ c.if-bytes-ne100.false (sym c.in-Ok.ensures) ∙ simp (ne_eqb _ _ c.if-k-bytes.false))
