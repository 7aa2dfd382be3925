use Rattle.std.proofs.Common.{[], ◌∷◌, decimal, append_assoc}
use Rattle.output.proofs.Pages.{stands_nothing, stands_more, page_of}
use Rattle.output.proofs.output.put_tick.Goals as goal

pub returns-clause-page : goal.returns-clause-page
returns-clause-page c =
    let a = stands_more (decimal c.args.clock.0) (stands_nothing c.requires.empty) c.number.ensures.over c.number.ensures.behind in
    let b = stands_more (32 ∷ []) a c.byte.ensures.over c.byte.ensures.behind in
    let d = stands_more (decimal c.from.result) b c.number-2.ensures.over c.number-2.ensures.behind in
    let f = stands_more (32 ∷ []) d c.byte-2.ensures.over c.byte-2.ensures.behind in
    let g = stands_more (c.mode_letter-mode.result ∷ []) f c.byte-3.ensures.over c.byte-3.ensures.behind in
    let h = stands_more (32 ∷ []) g c.byte-4.ensures.over c.byte-4.ensures.behind in
    let i = stands_more (c.end_letter-ending.result ∷ []) h c.byte-5.ensures.over c.byte-5.ensures.behind in
    let j = stands_more (10 ∷ []) i c.byte-6.ensures.over c.byte-6.ensures.behind in
    page_of j (simp (append_assoc, c.from.ensures, c.unwrap_or.ensures, c.mode_letter-mode.ensures, c.end_letter-ending.ensures))
