-- `find` and `find_map`, asked of an iterator that gives the first of a list, give the first of what passes, and leave the others. Assumes nothing.
use Rattle.std.proofs.Common.{◌≡◌, ℕ, suc, ◌+◌, ◌<◌, Bool, true, false, List, [], ◌∷◌, ◌++◌, map, Some, None, Option, sym, refl, ap, ◌∙◌, subst, arith}
use Rattle.std.proofs.iter.runs.Made.{took, each_of}
use Rattle.std.specs.Fn.{Called, CalledAt}
use Rattle.std.specs.Iterator.{Yields, FindsItem, FindsMapped, YieldsFirstBy}
use Rattle.std.specs.Iterator.Runs.{SomeRun, CallKeepsClosure, AllItemsGive, IsFirstToGive}
use Rattle.std.specs.List.{FoldsTo, filter, filter_map, slice_get}
use Rattle.std.specs.Option.{option_map, MatchOption, IfSome}
use denote.Param.Members.{Mut}
use denote.Ref.{Bor}

-- what was left before, what came of it, and what is left
abbrev pub First : {C D : Type 0} → (C → D) → List D → Option C → List D → Type 0
First w xs r ys = YieldsFirstBy w (λ l. l) xs r ys

module _ {S A B : Type 0} (v : A → B) (rest : S → List B) where
  module _ {F : Type 0} (g : Mut F (Bor A × Unit {0}) Bool) (test : B → Bool) (f : F) (acts : (x : A) (b : Bool) (q : F) → CalledAt g f x b q → (q ≡ f) × (b ≡ test (v x))) where
    failed : (xs : List A) (s t : S) (j : F) → Yields (YieldsFirstBy v rest) s xs t → FoldsTo (λ p x q. CalledAt g p x false q) f xs j → (filter test (rest s) ≡ filter test (rest t)) × (j ≡ f)
    failed [] s t j y c = (ap (λ k. filter test (rest k)) y, sym c)
    failed (x ∷ xs) s t j (s', step, y) (f', call, c) =
        let no = acts x false f' call in
        let later = failed xs s' t j y (subst (λ k. FoldsTo (λ p z q. CalledAt g p z false q) k xs j) no.0 c) in
        (rw (step, ← no.1) later.0, later.1)

    pub find_gives : (s u : S) (r : Option A) → FindsItem (YieldsFirstBy v rest) g s f r u → First v (filter test (rest s)) r (filter test (rest u))
    find_gives s u None (xs, j, (t, y, step), c, m) =
        let before = failed xs s t j y c in
        (before.0 ∙ ap (filter test) step.0, ap (filter test) step.1)
    find_gives s u (Some x) (xs, j, (t, y, step), c, (k, call)) =
        let before = failed xs s t j y c in
        let yes = acts x true k (subst (λ q. CalledAt g q x true k) before.1 call) in
        before.0 ∙ rw (step, ← yes.1) refl

  module _ {C D F : Type 0} (w : C → D) (h : B → Option D) (g : Mut F (A × Unit {0}) (Option C)) (f : F) (acts : (x : A) (r : Option C) (q : F) → Called g f (x, tt) r q → (q ≡ f) × (option_map w r ≡ h (v x))) where
    passed_by : (xs : List A) (s t : S) (j : F) → Yields (YieldsFirstBy v rest) s xs t → FoldsTo (λ p x q. Called g p (x, tt) None q) f xs j → (filter_map h (rest s) ≡ filter_map h (rest t)) × (j ≡ f)
    passed_by [] s t j y c = (ap (λ k. filter_map h (rest k)) y, sym c)
    passed_by (x ∷ xs) s t j (s', step, y) (f', call, c) =
        let no = acts x None f' call in
        let later = passed_by xs s' t j y (subst (λ k. FoldsTo (λ p z q. Called g p (z, tt) None q) k xs j) no.0 c) in
        (rw (step, ← no.1) later.0, later.1)

    -- where nothing was found, every item that there was gave nothing
    none_given : (xs : List A) (s t : S) → Yields (YieldsFirstBy v rest) s xs t → rest t ≡ [] → ((k : ℕ) → IfSome (slice_get xs k) (λ x. Called g f (x, tt) None f)) → filter_map h (rest s) ≡ []
    none_given [] s t y e all = ap (λ k. filter_map h (rest k)) y ∙ ap (filter_map h) e
    none_given (x ∷ xs) s t (s', step, y) e all =
        let no = acts x None f (all 0) in
        rw (step, ← no.1) (none_given xs s' t y e (λ k. all (suc k)))

    keeps : CallKeepsClosure g f
    keeps a r q call = (acts a.0 r q call).0

    whole_run : (s : S) → SomeRun (YieldsFirstBy v rest) s (λ p. (p.whole ≡ true) × AllItemsGive p g f None) → filter_map h (rest s) ≡ []
    whole_run s (p, from, (whole, all)) =
        let ran = took p in
        let last = ran.2 whole in
        ap (λ k. filter_map h (rest k)) (sym from) ∙ none_given p.items p.from ran.0 ran.1 last.1.0 (each_of p (λ x. Called g f (x, tt) None f) (all keeps))

    after_none : (o : Option A) (s t u : S) (j : F) → filter_map h (rest s) ≡ filter_map h (rest t) → filter_map h (rest s) ≡ [] → YieldsFirstBy v rest t o u → (j ≡ f)
        → MatchOption o (◌≡◌ {A = Option C} None None) (λ x. (k : F) × Called g j (x, tt) None k) → (filter_map h (rest s) ≡ []) × (filter_map h (rest u) ≡ [])
    after_none None s t u j same none step is m = (none, ap (filter_map h) step.1)
    after_none (Some x) s t u j same none step is (k, call) =
        let no = acts x None k (subst (λ q. Called g q (x, tt) None k) is call) in
        let behind : filter_map h (rest t) ≡ filter_map h (rest u) = rw (step, ← no.1) refl in
        (none, sym behind ∙ sym same ∙ none)

    after_some : (o : Option A) (y : C) (s t u : S) (j : F) → filter_map h (rest s) ≡ filter_map h (rest t) → YieldsFirstBy v rest t o u → (j ≡ f)
        → MatchOption o (Some y ≡ None) (λ x. (k : F) × Called g j (x, tt) (Some y) k) → filter_map h (rest s) ≡ w y ∷ filter_map h (rest u)
    after_some None y s t u j same step is m = let z : ◌≡◌ {A = ℕ} 0 1 = cc in absurd (omega arith)
    after_some (Some x) y s t u j same step is (k, call) =
        let yes = acts x (Some y) k (subst (λ q. Called g q (x, tt) (Some y) k) is call) in
        same ∙ rw (step, ← yes.1) refl

    pub find_map_gives : (s u : S) (r : Option C) → FindsMapped (YieldsFirstBy v rest) g s f r u
        → SomeRun (YieldsFirstBy v rest) s (λ p. MatchOption r ((p.whole ≡ true) × AllItemsGive p g f None) (λ y. (i : ℕ) × (i < p.len) × (p.len ≡ i + 1) × IsFirstToGive p g f (Some y) None i))
        → First w (filter_map h (rest s)) r (filter_map h (rest u))
    find_map_gives s u None (xs, o, j, (t, y, step), c, m) run =
        let before = passed_by xs s t j y c in
        after_none o s t u j before.0 (whole_run s run) step before.1 m
    find_map_gives s u (Some z) (xs, o, j, (t, y, step), c, m) run =
        let before = passed_by xs s t j y c in
        after_some o z s t u j before.0 step before.1 m

-- what came so far, and what is left
pub so_far : {S A B : Type 0} (v : A → B) (rest : S → List B) (xs : List A) (s t : S) → Yields (YieldsFirstBy v rest) s xs t → rest s ≡ map v xs ++ rest t
so_far v rest [] s t y = ap rest y
so_far v rest (x ∷ xs) s t (s', step, y) = step ∙ ap (λ l. v x ∷ l) (so_far v rest xs s' t y)

-- what came is the first of the list
pub first_is : {D : Type 0} (xs ys : List D) (r : Option D) → First (λ x. x) xs r ys → r ≡ slice_get xs 0
first_is xs ys None e = rw e.0 refl
first_is xs ys (Some x) e = rw e refl
