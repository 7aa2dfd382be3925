use Rattle.std.proofs.Common.{◌≡◌, ℕ, List, [], ◌∷◌, decimal, ap, ◌∙◌, append_assoc}
use Rattle.output.specs.Output.{closed, page, fault_words}
use Rattle.output.proofs.Pages.{stands_nothing, stands_more, page_of}
use Rattle.output.proofs.output.put_fault.Goals as goal

pub returns-clause-page : goal.returns-clause-page
returns-clause-page c =
    let fields : List (List ℕ) = (102 ∷ 97 ∷ 117 ∷ 108 ∷ 116 ∷ []) ∷ decimal c.from.result ∷ (c.letter.result ∷ []) ∷ decimal c.from-2.result ∷ [] in
    let a = stands_more (102 ∷ 97 ∷ 117 ∷ 108 ∷ 116 ∷ 32 ∷ []) (stands_nothing c.requires.empty) c.word.ensures.over c.word.ensures.behind in
    let b = stands_more (decimal c.from.result) a c.number.ensures.over c.number.ensures.behind in
    let d = stands_more (32 ∷ []) b c.byte.ensures.over c.byte.ensures.behind in
    let f = stands_more (c.letter.result ∷ []) d c.byte-2.ensures.over c.byte-2.ensures.behind in
    let g = stands_more (32 ∷ []) f c.byte-3.ensures.over c.byte-3.ensures.behind in
    let h = stands_more (decimal c.from-2.result) g c.number-2.ensures.over c.number-2.ensures.behind in
    let i = stands_more (10 ∷ []) h c.byte-4.ensures.over c.byte-4.ensures.behind in
    let is : fields ≡ fault_words c.args.fault = rw (c.from.ensures, c.from-2.ensures, c.letter.ensures) in
    page_of {w = closed fields} i (simp append_assoc) ∙ ap (λ ws. page (closed ws) c.args.line.now.out.now) is
