use Rattle.std.{proofs.Common.{arith, ◌≡◌, ◌++◌, ◌<◌, ◌≤◌, ℕ, Bool, true, not, List, length, length-append, ap, refl, sym, subst, ◌∙◌}, specs.Rc.{rc_str_bytes}}
use Rattle.std.specs.declared.rc.RcStr.{RcStr}
use Rattle.nntp_article.specs.{Article.Parts.{Id}, Session.Spool.{Numbers}}
use Rattle.nntp_content.{specs.{Inner.Numbers.{AreAscending, AreKnown, numbers_shown, with_number}, Numbers.{has_id}}, proofs.ShownNumbers.{one_put}}
use Rattle.std.specs.FinMap as map
use Rattle.nntp_content.proofs.numbers.Numbers.put.Goals as goal

-- the numbers and the ids that are known, where the list is one that was right
same_list : {A : Type 0} (known : List (RcStr A)) (was ids lent : List (ℕ × RcStr A)) → AreAscending was → ids ≡ was → lent ≡ ids → AreKnown known (numbers_shown lent)
    → AreAscending ids × AreKnown known (numbers_shown ids)
same_list known was ids lent up same is are = (subst AreAscending (sym same) up, subst (λ ids. AreKnown known (numbers_shown ids)) is are)

-- what is answered of an id tells whether it was there
had : (N : Numbers) (id same : Id) (added : Bool) → added ≡ not (has_id N id) → id ≡ same → has_id N same ≡ not added
had N id same added e is = grind arith

-- one of two parts is no longer than the whole
front_fits : {X : Type 0} (xs ys whole : List X) (n : ℕ) → whole ≡ xs ++ ys → length whole ≡ n → length xs ≤ n
front_fits xs ys whole n parts len = omega (arith, ap length parts, length-append xs ys)

-- what has room is not full
full : (len capacity : ℕ) → len < capacity → capacity ≤ len → ⊥
full len capacity room none = omega arith

-- the numbers are as they were where one of them has the id
as_before : (N M : Numbers) (n : ℕ) (said id : Id) → M ≡ N → true ≡ has_id M said → said ≡ id → M ≡ with_number N n id
as_before N M n said id same has is = grind arith

pub invariant_of-self : goal.invariant_of-self
invariant_of-self g c = subst (λ ids. AreAscending ids × AreKnown c.self.inside.known.keys (numbers_shown ids)) (sym c.in_default.ensures.ids) c.self.invariant

pub returns-then-has_some_id-clause-ok : goal.returns-then-has_some_id-clause-ok
returns-then-has_some_id-clause-ok g c =
    as_before _ (numbers_shown c.handles.new.ids.items) c.args.number _ _ (ap numbers_shown c.in_default.ensures.ids ∙ c.self.view_is) c.if-has_some_id.ensures c.as_str.ensures.value

pub returns-else-has_some_id-clause-err : goal.returns-else-has_some_id-clause-err
returns-else-has_some_id-clause-err g c = ap numbers_shown c.in_default.ensures.ids ∙ c.self.view_is

pub learn-requires : goal.learn-requires
learn-requires g c = subst (λ ids. AreAscending ids × AreKnown c.self.inside.known.keys (numbers_shown ids)) (sym (c.deref.ensures.value ∙ c.in-Ok.ensures.ids)) c.self.invariant

pub invariant_of-self-in_err-learn : goal.invariant_of-self-in_err-learn
invariant_of-self-in_err-learn g c = same_list c.learn.new.known.keys _ _ _ c.self.invariant.0 c.in-Ok.ensures.ids c.deref.ensures.value c.in_err-learn.ensures.err

pub invariant_of-self-then-not-branch : goal.invariant_of-self-then-not-branch
invariant_of-self-then-not-branch g c =
    let here = ap numbers_shown (c.deref.ensures.value ∙ c.in-Ok.ensures.ids) ∙ c.self.view_is in
    let known = c.in_ok-learn.ensures.ok c.args.number (ap (λ N. map.get N c.args.number) here ∙ c.requires) in
    let has = had (numbers_shown c.deref.result.now) _ _ _ c.in_ok-learn.ensures.added refl ∙ ap not c.if-not-branch.true in
    same_list c.learn.new.known.keys _ _ _ c.self.invariant.0 c.in-Ok.ensures.ids c.deref.ensures.value (rw has at known)

pub returns-then-not-branch-clause-ok : goal.returns-then-not-branch-clause-ok
returns-then-not-branch-clause-ok g c =
    let shows = ap numbers_shown c.in-Ok.ensures.ids ∙ c.self.view_is in
    let here = ap numbers_shown c.deref.ensures.value ∙ shows in
    let has = had c.args.self.now _ _ _ (rw here at c.in_ok-learn.ensures.added) c.in-Ok.ensures.same.1 ∙ ap not c.if-not-branch.true in
    rw has shows

pub insert-requires : goal.insert-requires
insert-requires g c = front_fits _ _ _ _ c.split_before.ensures.0 c.deref-2.ensures.len

pub invariant_of-self-in_err-insert : goal.invariant_of-self-in_err-insert
invariant_of-self-in_err-insert g c = absurd (full _ _ c.in-Ok.ensures.room c.in_err-insert.ensures.full)

pub invariant_of-self-2 : goal.invariant_of-self-2
invariant_of-self-2 g c =
    let N = c.args.self.now in
    let held = c.in-Ok.held in
    let keys = c.learn.new.known.keys in
    let shows = ap numbers_shown c.in-Ok.ensures.ids ∙ c.self.view_is in
    let new = one_put _ _ N (subst AreAscending (sym c.in-Ok.ensures.ids) c.self.invariant.0) shows c.deref-2.ensures.value _ _ _ _ held c.split_before.ensures
    c.requires c.in_ok-insert.ensures.items in
    let same : rc_str_bytes c.in-Ok.known ≡ rc_str_bytes held = c.in-Ok.ensures.same.1 ∙ sym c.in-Ok.ensures.same.0 in
    let here = ap numbers_shown c.deref.ensures.value ∙ shows in
    let lacks = had N _ _ _ (rw here at c.in_ok-learn.ensures.added) same ∙ ap not c.if-not-branch.false in
    let learnt = c.in_ok-learn.ensures.ok c.args.number (ap (λ N. map.get N c.args.number) here ∙ c.requires) in
    let known = subst (λ M. AreKnown keys (with_number M c.args.number (rc_str_bytes held))) here
    (subst (λ id. AreKnown keys (with_number (numbers_shown c.deref.result.now) c.args.number id)) same learnt) in
    (new.0, subst (AreKnown keys) (sym new.1) (rw lacks at known))

pub returns-clause-ok : goal.returns-clause-ok
returns-clause-ok g c =
    let N = c.args.self.now in
    let shows = ap numbers_shown c.in-Ok.ensures.ids ∙ c.self.view_is in
    let new = one_put _ _ N (subst AreAscending (sym c.in-Ok.ensures.ids) c.self.invariant.0) shows c.deref-2.ensures.value _ _ _ _ _ c.split_before.ensures c.requires c.in_ok-insert.ensures.items in
    let here = ap numbers_shown c.deref.ensures.value ∙ shows in
    let lacks = had N _ _ _ (rw here at c.in_ok-learn.ensures.added) c.in-Ok.ensures.same.1 ∙ ap not c.if-not-branch.false in
    rw lacks (new.1 ∙ ap (map.insert N c.args.number) c.in-Ok.ensures.same.0)
