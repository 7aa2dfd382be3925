use Rattle.std.proofs.Common.{[], ◌∷◌, decimal, append_assoc}
use Rattle.output.proofs.Pages.{stands_nothing, stands_more, page_of}
use Rattle.output.proofs.output.put_event.Goals as goal

pub returns-clause-page : goal.returns-clause-page
returns-clause-page c =
    let a = stands_more (decimal c.args.clock.0) (stands_nothing c.requires.empty) c.number.ensures.over c.number.ensures.behind in
    let b = stands_more (32 ∷ []) a c.byte.ensures.over c.byte.ensures.behind in
    let d = stands_more (c.args.letter ∷ []) b c.byte-2.ensures.over c.byte-2.ensures.behind in
    let f = stands_more (32 ∷ []) d c.byte-3.ensures.over c.byte-3.ensures.behind in
    let g = stands_more (decimal c.from.result) f c.number-2.ensures.over c.number-2.ensures.behind in
    let h = stands_more (10 ∷ []) g c.byte-4.ensures.over c.byte-4.ensures.behind in
    page_of h (simp (append_assoc, c.from.ensures))
