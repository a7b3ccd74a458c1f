use Rattle.std.proofs.Common.{arith, sym, ◌∙◌, rules}
use Rattle.saved.proofs.Answers.{formed_size, formed_places, formed_marks, sized_says}
use Rattle.saved.proofs.form.is_formed.Goals as goal

pub returns-then-not-ok : goal.returns-then-not-ok
returns-then-not-ok c = formed_size _ _ c.is_sized-ok.ensures (c.if-not-ok.true)

pub place_count-p-requires : goal.place_count-p-requires
place_count-p-requires c = sym c.is_sized-ok.ensures ∙ c.if-not-ok.false

pub places_good-places-requires : goal.places_good-places-requires
places_good-places-requires c = (c.requires.0, omega (arith, c.place_count-p.ensures, (sized_says _ (sym c.is_sized-ok.ensures ∙ c.if-not-ok.false)).1))

pub returns-then-not-places : goal.returns-then-not-places
returns-then-not-places c = formed_places _ _ _ _ _ c.is_sized-ok.ensures (c.if-not-ok.false) c.place_count-p.ensures c.requires.1 c.places_good-places.ensures (c.if-not-places.true)

pub mark_count-m-requires : goal.mark_count-m-requires
mark_count-m-requires c = omega (arith, (sized_says _ (sym c.is_sized-ok.ensures ∙ c.if-not-ok.false)).0)

pub overflow_mul-at : goal.overflow_mul-at
overflow_mul-at c = let w = (sized_says _ (sym c.is_sized-ok.ensures ∙ c.if-not-ok.false)).1 in let e = c.place_count-p.ensures in search rules

pub overflow_add-at : goal.overflow_add-at
overflow_add-at c = let w = (sized_says _ (sym c.is_sized-ok.ensures ∙ c.if-not-ok.false)).1 in let e = c.place_count-p.ensures in search rules

pub marks_good-requires : goal.marks_good-requires
marks_good-requires c = omega (arith, c.place_count-p.ensures, c.mark_count-m.ensures.0, (sized_says _ (sym c.is_sized-ok.ensures ∙ c.if-not-ok.false)).1)

pub returns : goal.returns
returns c = formed_marks _ _ _ _ _ _ _ _ c.is_sized-ok.ensures (c.if-not-ok.false) c.place_count-p.ensures c.requires.1 c.places_good-places.ensures (c.if-not-places.false) c.mark_count-m.ensures.0 c.requires.2 c.marks_good.ensures
