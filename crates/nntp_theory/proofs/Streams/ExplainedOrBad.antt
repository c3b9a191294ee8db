-- Of the spools with some property one explains two streams, or exactly one answer is bad.
use Rattle.std.{specs.Prelude.{⊤}, proofs.Common.{◌≡◌, ◌≢◌, ℕ, zero, suc, ◌+◌, ◌<◌, ◌≤◌, ◌^◌, ◌⊎◌, List, [], ◌∷◌, ◌++◌, length, take, inl, inr, refl, sym, ap}}
use Rattle.std.proofs.{Common.{subst, ◌∙◌, arith, length-append, append_assoc}, Math.Seq.{take-length}, lemmas.Bool.{cases_lt, cases_order}}
use Rattle.std.proofs.lemmas.List.{append-nil, length-take, nil_from_length}
use Rattle.nntp_article.specs.Session.{Spool.{Spool, IsSpool}, Machine.{Run, start}, Explains.{ExplainsUpTo, Explains, ExplainsFirst, BadAmong, Bad}}
use Rattle.nntp_article.specs.declared.session.profile.Profile.{Profile}
use Rattle.nntp_wire.{specs.{Session.{Spelled, prompts_of, ClientStream}, Answer.{Asked, Response, Spells}}, proofs.SpellsDecided.{some-spelling}}
use Rattle.nntp_theory.{specs.Inner.Given.{weight}, proofs.{Ids.SizeOfASession.{session_size}, Given.FirstBadAnswer.{run_fewer, none_permitted, holds_or_ends}}}
use Rattle.nntp_theory.proofs.{Given.SessionsByFacts.{some_or_none}, Session.LaterPrompts.{spelled_count}, Streams.OneClass.{same_first}}
use Rattle.nntp_pair.proofs.PairLemmas.{lines-few}

-- ---- octets read as far as they spell answers

-- the longest list of answers that the octets begin with
record Reading (ps : List Asked) (octets : List ℕ) : Type 0 where
  answers : List Response
  spelled : List ℕ
  rest : List ℕ
  is : Spelled ps answers spelled
  whole : octets ≡ spelled ++ rest
  longest : (others : List Response) (sp more : List ℕ) → Spelled ps others sp → octets ≡ sp ++ more → length others ≤ length answers

-- the octets are read as far as they spell answers
read : (ps : List Asked) (octets : List ℕ) → Reading ps octets
read [] octets = record { answers = []; spelled = []; rest = octets; is = refl; whole = refl; longest = λ others sp more s e. spelled_count [] others sp s }
read (p ∷ ps) octets = elim (some-spelling p octets) [
  | inr never ↦ record { answers = []; spelled = []; rest = octets; is = refl; whole = refl; longest = none never }
  | inl (a, b, rest, s, e) ↦
      let r = read ps rest in
      record {
        answers = a ∷ r.answers;
        spelled = b ++ r.spelled;
        rest = r.rest;
        is = (b, r.spelled, s, r.is, refl);
        whole = e ∙ ap (λ rest. b ++ rest) r.whole ∙ sym (append_assoc b r.spelled r.rest);
        longest = longer a b rest s e r;
      }
]
  where
    none : ((a : Response) (b rest : List ℕ) → Spells p a b → octets ≡ b ++ rest → ⊥) → (others : List Response) (sp more : List ℕ) → Spelled (p ∷ ps) others sp
        → octets ≡ sp ++ more → length others ≤ 0
    none never [] sp more s e = omega arith
    none never (a ∷ others) sp more (b, rest, s, more_spelled, whole) e = grind (arith, never a b (rest ++ more) s, append_assoc)

    longer : (a : Response) (b rest : List ℕ) → Spells p a b → octets ≡ b ++ rest → (r : Reading ps rest) (others : List Response) (sp more : List ℕ) → Spelled (p ∷ ps) others sp → octets ≡ sp ++ more
        → length others ≤ length (a ∷ r.answers)
    longer a b rest s e r [] sp more t f = omega arith
    longer a b rest s e r (c ∷ others) sp more (d, tail, t, tail_spelled, whole) f =
        grind (arith, same_first p a c b d rest tail [] more octets sp s t e whole, append-nil, r.longest others tail more tail_spelled)

-- of two readings the shorter is the front of the longer
same_front : (ps : List Asked) (answers others : List Response) (sp tp rest more : List ℕ) → Spelled ps answers sp → Spelled ps others tp → sp ++ rest ≡ tp ++ more → length answers ≤ length others
    → (answers ≡ take (length answers) others) × (length sp ≤ length tp)
same_front ps [] others sp tp rest more s t e le = (refl, let none = ap length s in omega arith)
same_front (p ∷ ps) (a ∷ answers) (c ∷ others) sp tp rest more (b, tail, s, ss, whole) (d, tail', t, ts, whole') e le =
    grind (arith, same_first p a c b d tail tail' rest more sp tp s t whole whole' e, same_front ps answers others tail tail' rest more ss ts, length-append)
same_front ps (a ∷ answers) others sp tp rest more s t e le = grind arith

-- the first answers of a reading, and what is left behind them
first_spelled : (ps : List Asked) (answers : List Response) (sp : List ℕ) (n : ℕ) → Spelled ps answers sp → n ≤ length answers
    → (front : List ℕ) × (rest : List ℕ) × Spelled ps (take n answers) front × (sp ≡ front ++ rest) × (n < length answers → 0 < length rest)
first_spelled ps [] sp zero s le = ([], sp, refl, refl, λ l. absurd (omega arith))
first_spelled (p ∷ ps) (a ∷ answers) sp (suc n) (b, tail, s, ss, whole) le =
    let r = first_spelled ps answers tail n ss (omega arith) in
    (b ++ r.0, r.1, (b, r.0, s, r.2, refl), whole ∙ ap (λ t. b ++ t) r.3 ∙ sym (append_assoc b r.0 r.1), λ l. r.4 (omega arith))
first_spelled ps answers sp n s le = grind arith

-- answers weigh no more than their octets
pub light : (ps : List Asked) (answers : List Response) (sp : List ℕ) → Spelled ps answers sp → weight answers ≤ length sp
light ps [] sp s = omega arith
light (p ∷ ps) (a ∷ answers) sp (b, tail, s, ss, whole) = grind (arith, lines-few p a b s, length-append, light ps answers tail ss)
light ps answers sp s = absurd s

-- who explains m answers explains fewer
pub first_explained : (profile : Profile) (S : Spool) (client : ClientStream) (server : List ℕ) (n m : ℕ) (rest : List ℕ) → n ≤ m
    → ExplainsUpTo profile S client server m rest → (left : List ℕ) × ExplainsUpTo profile S client server n left
first_explained profile S client server n m rest le x = grind (arith, first_spelled (prompts_of client) x.answers x.octets n x.spelled, take-length x.answers, length-take, run_fewer, append_assoc)

-- ---- of the spools with P

module _ (P : Spool → Type 0) (profile : Profile) (client : ClientStream) (server : List ℕ) where
  -- one answer is bad at most
  pub bad_once : (k j : ℕ) → BadAmong P profile client server k → BadAmong P profile client server j → k ≡ j
  bad_once k j (x, none) (y, none') =
      elim (cases_order k j) [
        | inl e ↦ e
        | inr apart ↦ absurd (elim apart [
          | inl l ↦ none y.0 y.2 (first_explained profile y.0 client server (k + 1) j y.1 (omega arith) y.3)
          | inr l ↦ none' x.0 x.2 (first_explained profile x.0 client server (j + 1) k x.1 (omega arith) x.3)
        ])
      ]

  -- where one of them explains all, no answer is bad
  pub explained_not_bad_among : (S : Spool) (n k : ℕ) → P S → Explains profile S client server n → BadAmong P profile client server k → ⊥
  explained_not_bad_among S n k p x (y, none) =
      elim (cases_lt k n) [
        | inl l ↦ none S p (first_explained profile S client server (k + 1) n [] (omega arith) x)
        | inr g ↦
            let z = y.3 in
            let f = same_front (prompts_of client) x.answers z.answers x.octets z.octets [] y.1 x.spelled z.spelled in
            y.4 (nil_from_length y.1 (grind (arith, f, length-append x.octets [], length-append z.octets y.1, x.whole, z.whole, x.count, z.count)))
      ]

  -- one of them permits the answers
  abbrev pub SomeRuns : List Response → Type 0
  SomeRuns answers = (S : Spool) × IsSpool profile.limit S × P S × Run profile S start (prompts_of client) answers

  -- whether one of them permits answers that the server's octets begin with
  abbrev pub IsDecided : Type 0
  IsDecided = (answers : List Response) (octets rest : List ℕ) → Spelled (prompts_of client) answers octets → server ≡ octets ++ rest
      → SomeRuns answers ⊎ (SomeRuns answers → ⊥)

  -- the answers that the server's octets begin with
  abbrev r : Reading (prompts_of client) server
  r = read (prompts_of client) server

  -- the first n of them; where there are more, octets are left
  first_read : (n : ℕ) → n ≤ length r.answers → (front : List ℕ) × (rest : List ℕ) × Spelled (prompts_of client) (take n r.answers) front × (server ≡ front ++ rest)
      × (n < length r.answers → rest ≢ [])
  first_read n le =
      let f = first_spelled (prompts_of client) r.answers r.spelled n r.is le in
      (f.0, f.1 ++ r.rest, f.2, grind (arith, r.whole, f.3, append_assoc), λ l e. omega (arith, f.4 l, ap length e, length-append f.1 r.rest))

  -- whoever explains answer k permits the first of them
  explained_permits : (T : Spool) (k : ℕ) → k < length r.answers → (y : ExplainsFirst profile T client server k) → Run profile T start (prompts_of client) (take (k + 1) r.answers)
  explained_permits T k within (more, y) = grind (arith, same_front (prompts_of client) y.answers r.answers y.octets r.spelled more r.rest y.spelled r.is)

  -- one that permits all of them explains both streams, or the answer behind them is bad
  at_the_end : SomeRuns r.answers → ((S : Spool) × (n : ℕ) × P S × Explains profile S client server n) ⊎ ((k : ℕ) × BadAmong P profile client server k)
  at_the_end (S, spool, p, run) = by r.rest refl
    where
      up_to : ExplainsUpTo profile S client server (length r.answers) r.rest
      up_to = record { is_spool = spool; answers = r.answers; octets = r.spelled; count = refl; run = run; spelled = r.is; whole = r.whole }

      by : (rest : List ℕ) → r.rest ≡ rest → ((S : Spool) × (n : ℕ) × P S × Explains profile S client server n) ⊎ ((k : ℕ) × BadAmong P profile client server k)
      by [] e = inl (S, length r.answers, p, subst (ExplainsUpTo profile S client server (length r.answers)) e up_to)
      by (c ∷ cs) e = inr (length r.answers, ((S, r.rest, p, up_to, λ none. cc), λ T q x. grind (arith, r.longest x.1.answers x.1.octets x.0 x.1.spelled x.1.whole)))

  -- one of them explains both streams, or an answer is bad
  pub explained_or_bad_among : SomeRuns [] → IsDecided → ((S : Spool) × (n : ℕ) × P S × Explains profile S client server n) ⊎ ((k : ℕ) × BadAmong P profile client server k)
  explained_or_bad_among base dec =
      elim (holds_or_ends (λ n. SomeRuns (take n r.answers)) (length r.answers) base (λ n le. let f = first_read n le in dec (take n r.answers) f.0 f.1 f.2 f.3)) [
        | inl all ↦ at_the_end (subst SomeRuns (take-length r.answers) all)
        | inr (k, (within, (S, spool, p, run), none)) ↦
            let f = first_read k (omega arith) in
            let x : ExplainsUpTo profile S client server k f.1 =
            record { is_spool = spool; answers = take k r.answers; octets = f.0; count = omega (arith, length-take k r.answers); run = run; spelled = f.2; whole = f.3 } in
            inr (k, ((S, f.1, p, x, f.4 within), λ T q y. none (T, y.1.is_spool, q, explained_permits T k within y)))
      ]

-- ---- of all spools

-- where one explains all, no answer is bad
pub explained_not_bad : (profile : Profile) (S : Spool) (client : ClientStream) (server : List ℕ) (n k : ℕ) → Explains profile S client server n → Bad profile client server k → ⊥
explained_not_bad profile S client server n k = explained_not_bad_among (λ S. ⊤) profile client server S n k tt

-- one explains all, or an answer is bad
pub explained_or_bad : (profile : Profile) (client : ClientStream) (server : List ℕ) → length server < 2 ^ 210
    → ((S : Spool) × (n : ℕ) × Explains profile S client server n) ⊎ ((k : ℕ) × Bad profile client server k)
explained_or_bad profile client server small =
    let base = none_permitted profile (prompts_of client) [] in
    elim (explained_or_bad_among (λ S. ⊤) profile client server (base.0, base.1, tt, tt) (λ answers octets rest spelled whole.
    elim (some_or_none profile (prompts_of client) answers (omega (arith, session_size, ap length whole ∙ length-append octets rest, light (prompts_of client) answers octets spelled)))
    [ inl h ↦ inl (h.0, h.1, tt, h.2) | inr none ↦ inr (λ h. none (h.0, h.1, h.3)) ])) [ inl x ↦ inl (x.0, x.1, x.3) | inr bad ↦ inr bad ]
