use Rattle.std.proofs.Common.{◌≡◌, ℕ, List, None, length, take, slice_index_or, sym, ap, ◌∙◌}
use Rattle.std.proofs.lemmas.List.{take_all}
use Rattle.std.proofs.lemmas.Result.{err_from_is_err_and}
use Rattle.tasks.specs.declared.task.Task.{Task}
use Rattle.table.specs.declared.draft.Draft.{Draft as CodeDraft}
use Rattle.table.specs.Drafts.{as_drafted}
use Rattle.table.specs.Tasks.{blank}
use Rattle.table.specs.Verdict.{drafted, verdict}
use Rattle.table.proofs.Accepted.{accepted, refused, same_draft, is_none}
use Rattle.table.proofs.table.Table.accept.Goals as goal

pub returns-in_err-check-clause-exact : goal.returns-in_err-check-clause-exact
returns-in_err-check-clause-exact c =
    let e = err_from_is_err_and c.from_residual.result c.from_residual.ensures.1 in
    rw e.1 (refused (as_drafted c.args.draft.now) _ c.in_err-check.ensures)

-- slots filled from the tasks of a draft that was checked hold that draft
holds : (d : CodeDraft) → verdict (as_drafted d) ≡ None → (slots : List Task) → ((k : ℕ) → slice_index_or slots k blank ≡ slice_index_or (take 32 d.tasks.now) k blank) → drafted d.scale d.total d.factor (length d.tasks.now) slots ≡ as_drafted d
holds d checked slots filled =
    let ts = d.tasks.now in
    let few = (accepted (as_drafted d) checked).few in
    same_draft d.scale d.total d.factor (length ts) slots ts (λ k. filled k ∙ ap (λ xs. slice_index_or xs k blank) (take_all 32 ts few))

pub invariant_of-result : goal.invariant_of-result
invariant_of-result c = record { accepted = is_none _ (c.in_ok-check.ensures ∙ ap verdict (sym (holds c.args.draft.now (sym c.in_ok-check.ensures) c.filled.result c.filled.ensures))) }

pub returns-clause-parts : goal.returns-clause-parts
returns-clause-parts c = holds c.args.draft.now (sym c.in_ok-check.ensures) c.filled.result c.filled.ensures

pub returns-clause-exact : goal.returns-clause-exact
returns-clause-exact c = accepted (as_drafted c.args.draft.now) (sym c.in_ok-check.ensures)
