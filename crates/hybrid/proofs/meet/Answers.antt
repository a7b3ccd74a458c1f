use Rattle.std.proofs.Common.{List, arith, ℕ, ◌≡◌, ap, sym, ◌∙◌}
use Rattle.halves.specs.V1Half.{same_path, names_of}
use Rattle.hybrid.specs.Ahead.{NextReads}
use Rattle.hybrid.specs.EntryLaws.{ok_none, ok_some}
use Rattle.hybrid.specs.CompareLaws.{met_none, met_other_length, met_by_path}
use Rattle.hybrid.proofs.meet.Goals as goal

pub returns-in_err-left : goal.returns-in_err-left
returns-in_err-left c = let n = ok_none (NextReads c.args.list.now c.args.cursor) _ c.next_file.ensures c.in_err-left.ensures.value in
    rw c.from_residual.ensures (λ us a p kp f ef eq. met_none _ _ us a f _ (λ t n p k e. let z : ◌≡◌ {A = ℕ} 0 1 = cc in omega arith) n)

pub returns-in_err-file : goal.returns-in_err-file
returns-in_err-file c = let n = rw c.in_err-file.was at (ok_some (NextReads c.args.list.now c.args.cursor) _ _ c.next_file.ensures c.in_ok-left.ensures.value) in
    rw c.from_residual-in_err-file.ensures (λ us a p kp f ef eq. met_none _ _ us a f _ (λ t n p k e. let z : ◌≡◌ {A = ℕ} 0 1 = cc in omega arith) n)

pub returns-then-n-length : goal.returns-then-n-length
returns-then-n-length c = let n = rw c.in_ok-file.was at (ok_some (NextReads c.args.list.now c.args.cursor) _ _ c.next_file.ensures c.in_ok-left.ensures.value) in
    λ us a p kp f ef eq. met_other_length _ _ us a f _ _ _ _ n (λ z. c.if-n-length.true (z ∙ ef))

pub returns-then-same_path : goal.returns-then-same_path
returns-then-same_path c = let n = rw c.in_ok-file.was at (ok_some (NextReads c.args.list.now c.args.cursor) _ _ c.next_file.ensures c.in_ok-left.ensures.value) in
    λ us a p kp f ef eq. (met_by_path _ _ us a f _ _ _ _ n (c.if-n-length.false ∙ sym ef) _ (λ ws s g. c.same_path.ensures ws s g p kp ∙ ap (λ (x : List (List ℕ)). same_path (names_of ws) x) (sym eq))).0 c.if-same_path.true

pub returns : goal.returns
returns c = let n = rw c.in_ok-file.was at (ok_some (NextReads c.args.list.now c.args.cursor) _ _ c.next_file.ensures c.in_ok-left.ensures.value) in
    λ us a p kp f ef eq. (met_by_path _ _ us a f _ _ _ _ n (c.if-n-length.false ∙ sym ef) _ (λ ws s g. c.same_path.ensures ws s g p kp ∙ ap (λ (x : List (List ℕ)). same_path (names_of ws) x) (sym eq))).1 c.if-same_path.false
