-- The first test that fails decides; the room keeps what was worked out, whatever they say.
use Rattle.std.proofs.Common.{Bool, true, ◌≡◌, ◌+◌, ◌*◌, ◌&&◌, length, refl, ap, sym, ◌∙◌}
use Rattle.octets.specs.Octets.{zero_hash}
use Rattle.numbers.specs.Numbers.{judged}
use Rattle.messages.specs.Take.{anchor}
use Rattle.header.specs.Header.{header_size}
use Rattle.messages.proofs.Taking.{run_part, uncles_part, heaped_given, compared_by, ready_fit, ready_way, ready_anchor, both_on, both_off}
use Rattle.messages.proofs.take.compare.Goals.{then-low, else-low}
use Rattle.messages.proofs.take.compare.Goals as goal

pub look_parts-low-requires : goal.look_parts-low-requires
look_parts-low-requires c = (ready_fit (length c.args.store.now) c.args.message.now c.args.header c.args.place c.requires.0, c.requires.2)

pub climb-high-requires : goal.climb-high-requires
climb-high-requires c = let a = c.args in
    let e = header_size + 32 * a.header.len in
    ready_way (length a.store.now) a.message.now a.header a.place c.requires.0 (length a.store.now) refl _ (uncles_part a.message.now a.header.len a.place.u e (e + 32 * a.place.u) refl refl)

pub hash_of-requires : goal.hash_of-requires
unfolding anchor
hash_of-requires c = let a = c.args in
    ready_anchor (length a.store.now) a.message.now a.header a.place c.requires.0 a.a c.requires.1

pub returns-then-not-alike : goal.returns-then-not-alike
unfolding zero_hash
returns-then-not-alike c = let a = c.args in
    let r = c.requires.0 in
    let e = header_size + 32 * a.header.len in
    let run = run_part a.message.now a.header.len e refl in
    let hashes = uncles_part a.message.now a.header.len a.place.u e (e + 32 * a.place.u) refl refl in
    let low = c.look_parts-low in
    let all = low.result.agrees && c.climb-high.result.agrees in (
      compared_by a.message.now a.header a.place r.carried.power _ _ _ run refl hashes a.store.now _ _ _ _ a.a _ _ all _
          (low.ensures.0, low.ensures.1) c.climb-high.ensures c.hash_of.ensures c.same-alike.ensures refl (ap (λ (b : Bool). judged true b all) (sym c.if-not-alike.true)),
      heaped_given a.message.now a.header a.place r.carried.power _ _ _ run refl hashes _ low.ensures.2,
    )

pub returns-then-not-all : goal.returns-then-not-all
unfolding zero_hash
returns-then-not-all c = let a = c.args in
    let r = c.requires.0 in
    let e = header_size + 32 * a.header.len in
    let run = run_part a.message.now a.header.len e refl in
    let hashes = uncles_part a.message.now a.header.len a.place.u e (e + 32 * a.place.u) refl refl in
    let low = c.look_parts-low in
    let both : c.if-low.all ≡ (low.result.agrees && c.climb-high.result.agrees) = elim c.if-low.branch [ then-low w ↦ both_on _ _ _ w.if-low.true w.all-is | else-low w ↦ both_off _ _ _ w.if-low.false w.all-is ] in (
      compared_by a.message.now a.header a.place r.carried.power _ _ _ run refl hashes a.store.now _ _ _ _ a.a _ _ c.if-low.all _
          (low.ensures.0, low.ensures.1) c.climb-high.ensures c.hash_of.ensures c.same-alike.ensures both
          (ap (λ (b : Bool). judged true true b) (sym c.if-not-all.true) ∙ ap (λ (b : Bool). judged true b c.if-low.all) (sym c.if-not-alike.false)),
      heaped_given a.message.now a.header a.place r.carried.power _ _ _ run refl hashes _ low.ensures.2,
    )

pub returns : goal.returns
unfolding zero_hash
returns c = let a = c.args in
    let r = c.requires.0 in
    let e = header_size + 32 * a.header.len in
    let run = run_part a.message.now a.header.len e refl in
    let hashes = uncles_part a.message.now a.header.len a.place.u e (e + 32 * a.place.u) refl refl in
    let low = c.look_parts-low in
    let both : c.if-low.all ≡ (low.result.agrees && c.climb-high.result.agrees) = elim c.if-low.branch [ then-low w ↦ both_on _ _ _ w.if-low.true w.all-is | else-low w ↦ both_off _ _ _ w.if-low.false w.all-is ] in (
      compared_by a.message.now a.header a.place r.carried.power _ _ _ run refl hashes a.store.now _ _ _ _ a.a _ _ c.if-low.all _
          (low.ensures.0, low.ensures.1) c.climb-high.ensures c.hash_of.ensures c.same-alike.ensures both
          (ap (λ (b : Bool). judged true true b) (sym c.if-not-all.false) ∙ ap (λ (b : Bool). judged true b c.if-low.all) (sym c.if-not-alike.false)),
      heaped_given a.message.now a.header a.place r.carried.power _ _ _ run refl hashes _ low.ensures.2,
    )
