-- The order of facts, and how often each is said, doesn't matter to the spool that is given for them; so the order of sessions doesn't.
use Rattle.std.proofs.Common.{◌≡◌, ℕ, ◌+◌, Bool, cond, IsTrue, List, [], ◌∷◌, ◌++◌, Option, None, Some, is_some, inl, inr, refl, sym, ap, ap₂, subst, ◌∙◌}
use Rattle.std.{proofs.{Common.{arith}, lemmas.Bool.{true≢false}}, specs.{Prelude.{IsFalse, unwrap_or, Contains}, List.{list_any, flat_map}, FinMap.{entries}}}
use Rattle.nntp_article.specs.{Article.{Parts.{Id, Line}, Fields.{made_head}}, Session.Spool.{Spool, Numbers, Name}, declared.session.profile.Profile.{Profile}}
use Rattle.nntp_wire.specs.{Listing.{Fields}, Session.{prompts_of}}
use Rattle.nntp_said.specs.{Asks.{Ask}, Facts.{Fact}}
use Rattle.nntp_theory.specs.Given.{denies, demand_in, join, demand, wants, is_known, IsFirstFree, IsOneMore, IsGivenNumber, asks_in, asks_of, shows_group}
use Rattle.nntp_theory.specs.Given.{mentions, first_given, id_in, id_shown, head_in, fields_in, body_in, invented, AreInvented, unshown_in, unshown_ids}
use Rattle.nntp_theory.specs.{Given.{IsGiven, facts_of_session}, Together.{GiveOne}, Inner.Together.{Together}, declared.demand.Demand.{Demand}}
use Rattle.nntp_theory.{specs.{declared.demand.Demand.TheVariants.{NoDemand}, Answered.{facts_of_all}}, proofs.GivenNumbers.JoinedDemands.{demand_append}}
use Rattle.nntp_theory.proofs.{Given.{GivenHolds.{one_given}, OneGivenSpool.{given_once}, SessionsByFacts.{stand_each}}, Members.{In, any_in, found_in}}
use Rattle.nntp_theory.proofs.Members.{to_flat, from_flat, in_front, in_back, in_cases, first_found, first_there, in_contains, contains_in}
use Rattle.nntp_theory.proofs.Streams.OneOutcome.{same_answers}
use Rattle.nntp_several.{specs.{Outcome.{IsLeastOfAll}, Sessions.{Recorded, ExplainsIt, ExplainsEach, answered_by}}, proofs.ExplainedSessions.{runs_each}}

-- ---- tests

bool_same : (a b : Bool) → (IsTrue a → IsTrue b) → (IsTrue b → IsTrue a) → a ≡ b
bool_same a b f g = grind arith

-- all of these are among those
abbrev AreIn : {A : Type 0} → List A → List A → Type 0
AreIn {A} xs ys = (x : A) → In x xs → In x ys

any_same : {A : Type 0} (p : A → Bool) (xs ys : List A) → AreIn xs ys → AreIn ys xs → list_any p xs ≡ list_any p ys
any_same p xs ys to from = grind (arith, bool_same, found_in, any_in)

-- ---- demands

join_none : (d : Demand) → join d NoDemand ≡ d
join_none d = grind arith

join_comm : (d e : Demand) → join d e ≡ join e d
join_comm d e = grind arith

-- demands of asks join in any order
join_asks : (a b : Ask) (zs : List Ask) → join (demand_in a) (join (demand_in b) (demand zs)) ≡ join (join (demand_in a) (demand_in b)) (demand zs)
join_asks a b zs = demand_append (a ∷ b ∷ []) zs ∙ ap (λ d. join (join (demand_in a) d) (demand zs)) (join_none (demand_in b))

-- what one of the asks demands is in the demand of all
has_demand : (a : Ask) (ys : List Ask) → In a ys → join (demand_in a) (demand ys) ≡ demand ys
has_demand a [] i = absurd i
has_demand a (y ∷ ys) (inl e) = grind arith
has_demand a (y ∷ ys) (inr i) = grind (arith, join_asks, join_comm, has_demand a ys i)

have_demand : (xs ys : List Ask) → AreIn xs ys → join (demand xs) (demand ys) ≡ demand ys
have_demand [] ys sub = refl
have_demand (x ∷ xs) ys sub = grind (arith, demand_append, has_demand, have_demand xs ys (λ a i. sub a (inr i)))

demand_same : (xs ys : List Ask) → AreIn xs ys → AreIn ys xs → demand xs ≡ demand ys
demand_same xs ys to from = sym (have_demand ys xs from) ∙ join_comm (demand ys) (demand xs) ∙ have_demand xs ys to

-- ---- the numbers of a group

known_same : (xs ys : List Ask) → AreIn xs ys → AreIn ys xs → (n : ℕ) → is_known xs n ≡ is_known ys n
known_same xs ys to from n = grind (arith, any_same)

one_more_same : (xs ys : List Ask) → AreIn xs ys → AreIn ys xs → (n : ℕ) → IsOneMore xs n → IsOneMore ys n
one_more_same xs ys to from n x = record {
  needed = λ m t. subst (λ d. IsFalse (wants d m)) (demand_same xs ys to from) (x.needed m (known_same xs ys to from m ∙ t));
  wanted = subst (λ d. IsTrue (wants d n)) (demand_same xs ys to from) x.wanted;
  first = subst (λ (taken : ℕ → Bool). IsFirstFree taken 1 n) (λ i m. any_same (λ ask. denies ask m) xs ys to from i) x.first;
}

given_number_same : (xs ys : List Ask) → AreIn xs ys → AreIn ys xs → (n : ℕ) → IsGivenNumber xs n → IsGivenNumber ys n
given_number_same xs ys to from n h = grind (arith, known_same, one_more_same)

asks_among : (name : Name) (xs ys : List Fact) → AreIn xs ys → AreIn (asks_of name xs) (asks_of name ys)
asks_among name xs ys to ask i = let f = from_flat (asks_in name) ask xs i in to_flat (asks_in name) f.0 ask ys (to f.0 f.1) f.2

-- ---- the given spool

-- what facts give is the same, where it is one
first_same : {A : Type 0} (f : Fact → Option A) (xs ys : List Fact) → AreIn xs ys → AreIn ys xs → GiveOne f ys → first_given f xs ≡ first_given f ys
first_same {A} f xs ys to from one = by (first_given f xs) refl (first_given f ys) refl
  where
    by : (o : Option A) → first_given f xs ≡ o → (p : Option A) → first_given f ys ≡ p → first_given f xs ≡ first_given f ys
    by (Some x) e p g = let r = first_found f xs x e in e ∙ sym (one_given f ys one r.0 (to r.0 r.1) x r.2)
    by None e None g = e ∙ sym g
    by None e (Some y) g =
        let r = first_found f ys y g in
        let t = first_there f xs r.0 y (from r.0 r.1) r.2 in
        absurd (true≢false (sym (ap is_some (sym e ∙ t.1))))

module _ (xs ys : List Fact) (to : AreIn xs ys) (from : AreIn ys xs) (together : Together ys) where
  shown_same : (name : Name) (n : ℕ) → id_shown xs name n ≡ id_shown ys name n
  shown_same name n = first_same (id_in name n) xs ys to from (together.ids name n)

  unshown_in_same : (name : Name) (es : List (ℕ × Id)) → unshown_in xs name es ≡ unshown_in ys name es
  unshown_in_same name [] = refl
  unshown_in_same name (e ∷ es) = ap₂ (λ (o : Option Id) (ids : List Id). cond (is_some o) [] (e.1 ∷ []) ++ ids) (shown_same name e.0) (unshown_in_same name es)

  unshown_same : (G : Spool) → unshown_ids xs G ≡ unshown_ids ys G
  unshown_same G = ap (λ (f : Name × Numbers → List Id). flat_map f (entries G.groups)) (λ i g. unshown_in_same g.0 (entries g.1) i)

  invented_same : (k : ℕ) (ids : List Id) → AreInvented xs k ids → AreInvented ys k ids
  invented_same k [] h = tt
  invented_same k (id ∷ ids) (j, free, is, rest) = (
    j,
    subst (λ (taken : ℕ → Bool). IsFirstFree taken k j) (λ i n. any_same (mentions (invented n)) xs ys to from i) free,
    is,
    invented_same (j + 1) ids rest,
  )

  -- the given spool of some facts is that of others with the same ones
  pub given_same : (G : Spool) → IsGiven xs G → IsGiven ys G
  given_same G g =
      record {
        groups = λ name. (let e = any_same (shows_group name) xs ys to from in (λ i. sym e ∙ (g.groups name).0 i, λ t. (g.groups name).1 (e ∙ t)));
        numbers_given = λ name i n. (
          λ h. given_number_same (asks_of name xs) (asks_of name ys) (asks_among name xs ys to) (asks_among name ys xs from) n ((g.numbers_given name i n).0 h),
          λ h. (g.numbers_given name i n).1 (given_number_same (asks_of name ys) (asks_of name xs) (asks_among name ys xs from) (asks_among name xs ys to) n h),
        );
        ids_shown = λ name n id i e. g.ids_shown name n id i (shown_same name n ∙ e);
        ids_invented = invented_same 0 (unshown_ids ys G) (subst (AreInvented xs 0) (unshown_same G) g.ids_invented);
        articles = grind (arith, any_same);
        heads = λ id t e. g.heads id t e ∙ ap₂ (λ (sent : Option (List Line)) (told : Option Fields). unwrap_or sent (made_head id told))
            (first_same (head_in id) xs ys to from (together.heads id)) (first_same (fields_in id) xs ys to from (together.fields id));
        bodies = λ id t e. g.bodies id t e ∙ ap (λ o. unwrap_or o []) (first_same (body_in id) xs ys to from (together.bodies id));
      }

-- ---- sessions in any order

-- what an explained session says
abbrev said_of : (profile : Profile) (S : Spool) (s : Recorded) → ExplainsIt profile S s → List Fact
said_of profile S s e = facts_of_session profile.marks (prompts_of s.client) e.1.answers

-- each fact is of one of the sessions
of_session : (profile : Profile) (S : Spool) (xs : List Recorded) (x : ExplainsEach profile S xs) (fact : Fact) → In fact (facts_of_all profile.marks (answered_by profile S xs x))
    → (s : Recorded) × In s xs × ((e : ExplainsIt profile S s) × In fact (said_of profile S s e))
of_session profile S [] x fact i = absurd i
of_session profile S (s ∷ xs) x fact i = elim (in_cases fact (said_of profile S s x.0) (facts_of_all profile.marks (answered_by profile S xs x.1)) i) [
  | inl j ↦ (s, inl refl, (x.0, j))
  | inr j ↦ (let r = of_session profile S xs x.1 fact j in (r.0, inr r.1, r.2))
]

-- and what one of them says is among all
to_session : (profile : Profile) (S T : Spool) (ys : List Recorded) (y : ExplainsEach profile T ys) (s : Recorded) (fact : Fact) → In s ys → (e : ExplainsIt profile S s)
    → In fact (said_of profile S s e) → In fact (facts_of_all profile.marks (answered_by profile T ys y))
to_session profile S T [] y s fact i e j = absurd i
to_session profile S T (q ∷ ys) y s fact (inl p) e j =
    subst (λ s. (e : ExplainsIt profile S s) → In fact (said_of profile S s e) → In fact (facts_of_all profile.marks (answered_by profile T (q ∷ ys) y))) p
    (λ e j. in_front fact (said_of profile T q y.0) (facts_of_all profile.marks (answered_by profile T ys y.1))
    (subst (λ answers. In fact (facts_of_session profile.marks (prompts_of q.client) answers)) (same_answers profile S T q.client q.server e.0 y.0.0 e.1 y.0.1) j)) e j
to_session profile S T (q ∷ ys) y s fact (inr i) e j = grind (arith, in_back, to_session profile S T ys y.1 s fact i e j)

facts_among : (profile : Profile) (S T : Spool) (xs ys : List Recorded) → ((s : Recorded) → Contains xs s → Contains ys s) → (x : ExplainsEach profile S xs) (y : ExplainsEach profile T ys)
    → AreIn (facts_of_all profile.marks (answered_by profile S xs x)) (facts_of_all profile.marks (answered_by profile T ys y))
facts_among profile S T xs ys sub x y fact i =
    let r = of_session profile S xs x fact i in
    to_session profile S T ys y r.0 fact (in_contains r.0 ys (sub r.0 (contains_in r.0 xs r.1))) r.2.0 r.2.1

-- the same sessions have the same least explanation
pub least_whatever_order : (profile : Profile) (xs ys : List Recorded) (S T : Spool) (ns ms : List ℕ)
    → ((s : Recorded) → Contains xs s → Contains ys s) → ((s : Recorded) → Contains ys s → Contains xs s)
    → IsLeastOfAll profile xs S ns → IsLeastOfAll profile ys T ms → S ≡ T
least_whatever_order profile xs ys S T ns ms to from x y =
    let gs = facts_of_all profile.marks (answered_by profile T ys y.explains.1) in
    let together = (stand_each profile T (answered_by profile T ys y.explains.1) y.explains.0 (runs_each profile T ys y.explains.1)).1 in
    search (arith, given_once, given_same, facts_among)
