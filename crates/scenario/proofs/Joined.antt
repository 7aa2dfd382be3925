-- Lines and fields joined again.
use Rattle.std.proofs.Common.{◌≡◌, ℕ, Bool, true, false, cond, eqb, ◌≢◌, List, [], ◌∷◌, ◌++◌, sym, refl, ap, ◌∙◌, arith}
use Rattle.std.proofs.lemmas.Bool.{eqb-true, eqb-false, ne_eqb}
use Rattle.std.specs.List.{AllByRecursion}
use Rattle.scenario.specs.Laws.{Without, ended, finished, LinesJoined, LinesLack, LinesOnly, FieldsJoined, FieldsLack, FieldsOnly}
use Rattle.output.specs.Lines.{lines, fields, spaced, onto_first, before}
use Rattle.scenario.proofs.Pieces.{lines_first, fields_first}

ended_onto : (b : ℕ) (x : List ℕ) (ls ys : List (List ℕ)) → ls ≡ x ∷ ys → ended (onto_first b ls) ≡ b ∷ ended ls
ended_onto b x ls ys e = rw e

spaced_onto : (b : ℕ) (f : List ℕ) (fs : List (List ℕ)) → spaced (onto_first b (f ∷ fs)) ≡ b ∷ spaced (f ∷ fs)
spaced_onto b f [] = refl
spaced_onto b f (g ∷ gs) = refl

cond_cons : (t : Bool) (b : ℕ) (xs ys : List ℕ) → b ∷ cond t xs ys ≡ cond t (b ∷ xs) (b ∷ ys)
cond_cons true b xs ys = refl
cond_cons false b xs ys = refl

pub lines_joined : LinesJoined
lines_joined [] = refl
lines_joined (b ∷ []) = go (eqb b 10) refl
  where
    go : (t : Bool) → eqb b 10 ≡ t → ended (cond t ([] ∷ []) ((b ∷ []) ∷ [])) ≡ cond t (b ∷ []) (b ∷ 10 ∷ [])
    go true e = rw (eqb-true b 10 e)
    go false e = refl
lines_joined (b ∷ c ∷ bs) = go (eqb b 10) refl (lines_joined (c ∷ bs))
  where
    go : (t : Bool) → eqb b 10 ≡ t → ended (lines (c ∷ bs)) ≡ cond (finished (c ∷ bs)) (c ∷ bs) ((c ∷ bs) ++ (10 ∷ []))
        → ended (cond t ([] ∷ lines (c ∷ bs)) (onto_first b (lines (c ∷ bs)))) ≡ cond (finished (c ∷ bs)) (b ∷ c ∷ bs) ((b ∷ c ∷ bs) ++ (10 ∷ []))
    go true e ih = ap (λ xs. 10 ∷ xs) ih ∙ ap (λ k. k ∷ cond (finished (c ∷ bs)) (c ∷ bs) ((c ∷ bs) ++ (10 ∷ []))) (sym (eqb-true b 10 e)) ∙ cond_cons (finished (c ∷ bs)) b (c ∷ bs) ((c ∷ bs) ++ (10 ∷ []))
    go false e ih = ended_onto b _ (lines (c ∷ bs)) _ (lines_first (c ∷ bs) (omega arith)) ∙ ap (λ xs. b ∷ xs) ih ∙ cond_cons (finished (c ∷ bs)) b (c ∷ bs) ((c ∷ bs) ++ (10 ∷ []))

onto_lacks : (stop b : ℕ) (ps : List (List ℕ)) → b ≢ stop → Without stop ps → Without stop (onto_first b ps)
onto_lacks stop b [] n h = ((n, tt), tt)
onto_lacks stop b (p ∷ ps) n h = ((n, h.0), h.1)

pub lines_lack : LinesLack
lines_lack [] = tt
lines_lack (b ∷ bs) = go (eqb b 10) refl (lines_lack bs)
  where
    go : (t : Bool) → eqb b 10 ≡ t → Without 10 (lines bs) → Without 10 (cond t ([] ∷ lines bs) (onto_first b (lines bs)))
    go true e ih = (tt, ih)
    go false e ih = onto_lacks 10 b (lines bs) (eqb-false b 10 e) ih

pub fields_lack : FieldsLack
fields_lack [] = (tt, tt)
fields_lack (b ∷ bs) = go (eqb b 32) refl (fields_lack bs)
  where
    go : (t : Bool) → eqb b 32 ≡ t → Without 32 (fields bs) → Without 32 (cond t ([] ∷ fields bs) (onto_first b (fields bs)))
    go true e ih = (tt, ih)
    go false e ih = onto_lacks 32 b (fields bs) (eqb-false b 32 e) ih

one_line : (l rest : List ℕ) → AllByRecursion (λ b. b ≢ 10) l → lines (l ++ (10 ∷ rest)) ≡ l ∷ lines rest
one_line [] rest h = refl
one_line (b ∷ l) rest h = rw (ne_eqb b 10 h.0, one_line l rest h.1)

pub lines_only : LinesOnly
lines_only [] h = refl
lines_only (l ∷ ls) h = one_line l (ended ls) h.0 ∙ ap (λ xs. l ∷ xs) (lines_only ls h.1)

pub fields_joined : FieldsJoined
fields_joined [] = refl
fields_joined (b ∷ bs) = go (eqb b 32) refl (before 32 bs) _ (fields_first bs) (fields_joined bs)
  where
    go : (t : Bool) → eqb b 32 ≡ t → (f : List ℕ) (fs : List (List ℕ)) → fields bs ≡ f ∷ fs → spaced (fields bs) ≡ bs → spaced (cond t ([] ∷ fields bs) (onto_first b (fields bs))) ≡ b ∷ bs
    go true e f fs is ih = rw is (ap (λ xs. 32 ∷ xs) (sym (ap spaced is) ∙ ih) ∙ ap (λ k. k ∷ bs) (sym (eqb-true b 32 e)))
    go false e f fs is ih = rw is (spaced_onto b f fs ∙ ap (λ xs. b ∷ xs) (sym (ap spaced is) ∙ ih))

one_field : (f rest : List ℕ) → AllByRecursion (λ b. b ≢ 32) f → fields (f ++ (32 ∷ rest)) ≡ f ∷ fields rest
one_field [] rest h = refl
one_field (b ∷ f) rest h = rw (ne_eqb b 32 h.0, one_field f rest h.1)

last_field : (f : List ℕ) → AllByRecursion (λ b. b ≢ 32) f → fields f ≡ f ∷ []
last_field [] h = refl
last_field (b ∷ f) h = rw (ne_eqb b 32 h.0, last_field f h.1)

pub fields_only : FieldsOnly
fields_only f [] h = last_field f h.0
fields_only f (g ∷ gs) h = one_field f (spaced (g ∷ gs)) h.0 ∙ ap (λ xs. f ∷ xs) (fields_only g gs h.1)
