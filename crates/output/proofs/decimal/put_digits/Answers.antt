use Rattle.std.proofs.Common.{◌≡◌, ℕ, ◌+◌, ◌-◌, ◌/◌, ◌%◌, ◌^◌, ◌<◌, List, [], ◌++◌, length, drop, set, decimal, sym, ap, ◌∙◌, arith}
use Rattle.std.proofs.lemmas.Fmt.{decimal_nonempty}
use Rattle.std.proofs.lemmas.List.{append-nil, drop_all}
use Rattle.output.specs.Written.{over}
use Rattle.output.proofs.Spelled.{decimal_shorter, decimal_one, over_nothing, set_over, whole, behind, last, front_length}
use Rattle.output.proofs.decimal.put_digits.Goals as goal

pub loop-rest-init : goal.loop-rest-init
loop-rest-init c =
    let D : List ℕ = decimal c.args.n in
    let none : drop (length D) D ≡ [] = drop_all (length D) D (omega arith) in
    (omega arith, c.requires.places, rw none (sym (append-nil D)), rw none (sym (over_nothing c.args.behind c.args.out.now)))

pub overflow_sub-end : goal.overflow_sub-end
overflow_sub-end c = omega (arith, decimal_nonempty c.loop-rest.rest (omega arith), c.loop-rest.invariant.1)

pub bounds-out-end : goal.bounds-out-end
bounds-out-end c = omega (arith, front_length (decimal c.args.n) (decimal c.loop-rest.rest) _ c.loop-rest.invariant.2, decimal_nonempty c.loop-rest.rest (omega arith), c.loop-rest.invariant.1, c.requires.places, c.requires.room)

pub loop-rest-preserved : goal.loop-rest-preserved
loop-rest-preserved c =
    let n = c.loop-rest.rest in
    let D : List ℕ = decimal c.args.n in
    let xs = c.args.out.now in
    let m : ℕ = c.args.at + length (decimal (n / 10)) in
    let is = c.loop-rest.invariant.2 in
    let small : n < 2 ^ 64 = omega arith in
    let e : c.loop-rest.end ≡ m + 1 = omega (arith, decimal_shorter n c.loop-rest-test.true small, c.loop-rest.invariant.1) in
    let e₁ : c.loop-rest.end - 1 ≡ m = omega arith in
    let b = behind n D is c.loop-rest-test.true small in
    let room : m < length xs = omega (arith, front_length D (decimal n) _ is, c.loop-rest.invariant.1, c.requires.places, c.requires.room) in (
      omega arith,
      e₁,
      whole n D is c.loop-rest-test.true small ∙ ap (λ t. decimal (n / 10) ++ t) (sym b),
      rw (e₁, b, c.loop-rest.invariant.3, e) (set_over m (drop (length (decimal n)) D) xs (48 + n % 10) room),
    )

pub bounds-out-at : goal.bounds-out-at
bounds-out-at c = omega (arith, decimal_nonempty c.args.n (omega arith), c.requires.places, c.requires.room)

pub returns : goal.returns
returns c =
    let n = c.loop-rest.rest in
    let D : List ℕ = decimal c.args.n in
    let xs = c.args.out.now in
    let T : List ℕ = drop (length (decimal n)) D in
    let e : c.loop-rest.end ≡ c.args.at + 1 = omega (arith, decimal_one n c.loop-rest-test.false, c.loop-rest.invariant.1) in
    let room : c.args.at < length xs = omega (arith, decimal_nonempty c.args.n (omega arith), c.requires.places, c.requires.room) in
    ap (λ o. set o c.args.at (48 + n)) c.loop-rest.invariant.3 ∙ ap (λ k. set (over k T xs) c.args.at (48 + n)) e ∙ set_over c.args.at T xs (48 + n) room
    ∙ ap (λ w. over c.args.at w xs) (sym (last n D c.loop-rest.invariant.2 c.loop-rest-test.false))
