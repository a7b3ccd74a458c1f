-- The invariant: the bytes so far gave no line, and the reading goes on from where they led.
-- Assumes nothing.
use Rattle.std.proofs.Common.{ℕ, arith, length, ◌≡◌, refl, ap, sym, ◌∙◌, rules, None}
use Rattle.session.proofs.Turns.{reached_start, reached_end, reached_next, reached_said, silent_not}
use Rattle.session.specs.declared.Part.{Part}
use Rattle.session.specs.declared.Progress.{Progress}
use Rattle.session.proofs.take_piece.Goals as goal

abbrev read_to : Progress → ℕ → Part
read_to q k = record { progress = q; used = k; line = None }

pub loop-i-init : goal.loop-i-init
loop-i-init c = let a = c.args in reached_start a.piece.now a.store.now a.room.now a.progress c.requires.due

pub take_byte-f-requires : goal.take_byte-f-requires
take_byte-f-requires c = record {
  store = omega (arith, c.loop-i.invariant.store_kept, c.requires.store);
  room = omega (arith, c.loop-i.invariant.room_kept, c.requires.room);
  due = c.loop-i.invariant.due;
}

pub returns-then-is_some : goal.returns-then-is_some
returns-then-is_some c = let R = c.loop-i.invariant in reached_said _ _ _ _ c.loop-i.store c.loop-i.room c.loop-i.q c.loop-i.i R _ c.take_byte-f.result _ _ c.loop-i-test.true refl c.take_byte-f.ensures (silent_not _ _ (sym c.is_some.ensures ∙ c.if-is_some.true)) _ refl

pub loop-i-preserved : goal.loop-i-preserved
loop-i-preserved c = let R = c.loop-i.invariant in reached_next _ _ _ _ c.loop-i.store c.loop-i.room c.loop-i.q c.loop-i.i R _ c.take_byte-f.result _ _ c.loop-i-test.true refl c.take_byte-f.ensures (silent_not _ _ (sym c.is_some.ensures ∙ c.if-is_some.false)) (search rules) (search rules)

pub returns : goal.returns
returns c = let R = c.loop-i.invariant in
    let e : length c.args.piece.now ≡ c.loop-i.i = omega (arith, R.within) in
    reached_end _ _ _ _ c.loop-i.store c.loop-i.room c.loop-i.q c.loop-i.i R c.loop-i-test.false _ (ap (λ (k : ℕ). read_to c.loop-i.q k) e)
