-- The class of a bad answer: there is one, and octets that follow leave it where it is settled.
use Rattle.std.proofs.Common.{◌≡◌, ℕ, ◌+◌, Bool, true, false, IsTrue, List, [], ◌∷◌, ◌++◌, length, Option, Some, inl, inr, refl, sym, ap, subst, ◌∙◌, arith}
use Rattle.std.proofs.{Common.{append_assoc, length-append}, lemmas.{List.{append_cancel_left, append-nil}, Bool.{cases_Bool, true≢false}}}
use Rattle.nntp_wire.specs.{Answer.{Asked, Response, Spells}, Frame.{frame_octets}, Session.{prompts_of, Spelled, ClientStream, further}}
use Rattle.nntp_wire.proofs.{SpellLemmas.{spelling-frame, one-frame}, SpellsDecided.{one-spelling, dec_spelling}, FramesDecided.{dec_frame, frame-longer}}
use Rattle.nntp_article.specs.Session.{Spool.{Spool}, Machine.{Visible, State, Run, start, fits}, Explains.{ExplainsUpTo, ExplainsFirst, BadAmong}}
use Rattle.nntp_article.specs.declared.session.profile.Profile.{Profile}
use Rattle.nntp_pair.specs.{Pairing.{IsCut, IsMalformed}, declared.class.Class.{Class, TheVariants.{Surplus, Cut, Malformed, OutOfPlace, Contradiction}}}
use Rattle.nntp_pair.proofs.PairingLemmas.{some-stay}
use Rattle.nntp_theory.proofs.Session.LaterPrompts.{prompts_joined, spelled_longer, run_longer, run_shorter, spelled_count, visible_longer, asked_longer}
use Rattle.nntp_theory.specs.Classes.{visible_from, asked_next, AnswersFirst, BeginsWithAnswer, IsClass, left_visible, HasClass, IsClosedBefore, IsSettled}

-- ---- one answer more

-- an answer is given on an open connection
run_open : (profile : Profile) (S : Spool) (s : State) (ps : List Asked) (answers : List Response) (asked : Asked)
    (a : Response) → asked_next ps answers ≡ Some asked → Run profile S s ps (answers ++ a ∷ []) → (visible_from s.visible ps answers).closed ≡ false
run_open profile S s (p ∷ ps) (x ∷ answers) asked a e (new, permits, rest) = grind (arith, run_open profile S new ps answers asked a e rest)
run_open profile S s ps answers asked a e r = cc

-- and fits the visible state
pub run_fits : (profile : Profile) (S : Spool) (s : State) (ps : List Asked) (answers : List Response) (asked : Asked)
    (a : Response) → asked_next ps answers ≡ Some asked → Run profile S s ps (answers ++ a ∷ []) → IsTrue (fits profile (visible_from s.visible ps answers) asked a)
run_fits profile S s (p ∷ ps) (x ∷ answers) asked a e (new, permits, rest) = grind (arith, run_fits profile S new ps answers asked a e rest)
run_fits profile S s ps answers asked a e r = cc

spelled_snoc : (ps : List Asked) (answers : List Response) (octets b : List ℕ) (asked : Asked) (a : Response) → Spelled ps answers octets → asked_next ps answers ≡ Some asked → Spells asked a b
    → Spelled ps (answers ++ a ∷ []) (octets ++ b)
spelled_snoc (p ∷ ps) (x ∷ answers) octets b asked a (c, rest, s, tail, whole) e t = (c, rest ++ b, s, spelled_snoc ps answers rest b asked a tail e t, ap (λ o. o ++ b) whole ∙ append_assoc c rest b)
spelled_snoc ps answers octets b asked a s e t = grind (arith, append-nil)

-- two readings of octets begin with the same answer, and the same octets are left behind it
pub same_first : (p : Asked) (x y : Response) (b d s t rest more sp tp : List ℕ)
    → Spells p x b → Spells p y d → sp ≡ b ++ s → tp ≡ d ++ t → sp ++ rest ≡ tp ++ more → (x ≡ y) × (b ≡ d) × (s ++ rest ≡ t ++ more)
same_first p x y b d s t rest more sp tp first second whole whole' e = grind (arith, append_assoc, one-spelling p x y b d (s ++ rest) (t ++ more) first second, append_cancel_left)

-- of a reading that is one answer longer, the answers before are the same
pub record OneMore (ps : List Asked) (answers others : List Response) (rest more : List ℕ) : Type 0 where
  pub asked : Asked
  pub response : Response
  pub front : List ℕ
  pub next : asked_next ps answers ≡ Some asked
  pub spells : Spells asked response front
  pub is : others ≡ answers ++ response ∷ []
  pub whole : rest ≡ front ++ more

pub one_more : (ps : List Asked) (answers others : List Response) (sp tp rest more : List ℕ) → Spelled ps answers sp
    → Spelled ps others tp → sp ++ rest ≡ tp ++ more → length others ≡ length answers + 1 → OneMore ps answers others rest more
one_more [] answers (y ∷ others) sp tp rest more s t e count = absurd t
one_more (p ∷ ps) [] (y ∷ []) sp tp rest more s (b, tail, t, nothing, whole) e count = grind (arith, append-nil)
one_more (p ∷ ps) (x ∷ answers) (y ∷ others) sp tp rest more (b, tail, s, ss, whole) (d, tail', t, ts, whole') e count =
    let same = same_first p x y b d tail tail' rest more sp tp s t whole whole' e in
    let m = one_more ps answers others tail tail' rest more ss ts same.2 (omega arith) in
    record { asked = m.asked; response = m.response; front = m.front; next = m.next; spells = m.spells; is = (λ i. sym same.0 i ∷ m.is i); whole = m.whole }
one_more ps answers others sp tp rest more s t e count = absurd (omega arith)

-- readings of as many answers are the same
as_many : (ps : List Asked) (answers others : List Response) (sp tp rest more : List ℕ) → Spelled ps answers sp
    → Spelled ps others tp → sp ++ rest ≡ tp ++ more → length others ≡ length answers → (answers ≡ others) × (rest ≡ more)
as_many ps [] [] sp tp rest more s t e count = (refl, ap (λ sp. sp ++ rest) (sym s) ∙ e ∙ ap (λ tp. tp ++ more) t)
as_many (p ∷ ps) (x ∷ answers) (y ∷ others) sp tp rest more (b, tail, s, ss, whole) (d, tail', t, ts, whole') e count =
    grind (arith, same_first p x y b d tail tail' rest more sp tp s t whole whole' e, as_many ps answers others tail tail' rest more ss ts)
as_many ps answers others sp tp rest more s t e count = grind arith

-- so two streams begin with k answers in one way
pub one_before : (client : ClientStream) (server : List ℕ) (k : ℕ) (b c : AnswersFirst client server k) → (b.answers ≡ c.answers) × (b.rest ≡ c.rest)
one_before client server k b c = grind (arith, as_many)

-- and are closed there, or not
pub closed_before : (client : ClientStream) (server : List ℕ) (k : ℕ) (b c : AnswersFirst client server k) → (left_visible client server k b).closed ≡ (left_visible client server k c).closed
closed_before client server k b c = ap (λ answers. (visible_from start.visible (prompts_of client) answers).closed) (one_before client server k b c).0

-- ---- one class

-- a spelling has a whole frame
pub not_cut : (profile : Profile) (v : Visible) (asked : Asked) (octets : List ℕ) (b : Bool) → IsCut asked octets → BeginsWithAnswer profile v asked octets b → ⊥
not_cut profile v asked octets b none a = grind (arith, spelling-frame asked a.response a.front a.rest a.spells)

-- and what it spells is spelled by its frame
pub not_malformed : (profile : Profile) (v : Visible) (asked : Asked) (octets : List ℕ) (b : Bool) → IsMalformed asked octets → BeginsWithAnswer profile v asked octets b → ⊥
not_malformed profile v asked octets b m a =
    let f = spelling-frame asked a.response a.front a.rest a.spells in
    grind (arith, f, one-frame asked octets f.0 m.initial f.1 m.block a.rest m.rest, m.nothing a.response)

-- one answer fits, or it doesn't
one_fitting : (profile : Profile) (v : Visible) (asked : Asked) (octets : List ℕ) → BeginsWithAnswer profile v asked octets true → BeginsWithAnswer profile v asked octets false → ⊥
one_fitting profile v asked octets a c = grind (arith, one-spelling asked a.response c.response a.front c.front a.rest c.rest a.spells c.spells (sym a.whole ∙ c.whole))

class_once : (closed : Bool) (profile : Profile) (v : Visible) (next : Option Asked) (octets : List ℕ) (c d : Class)
    → IsClass closed profile v next octets c → IsClass closed profile v next octets d → c ≡ d
class_once closed profile v next octets c d h k = grind (arith, not_cut, not_malformed, one_fitting)

some_class : (closed : Bool) (profile : Profile) (v : Visible) (next : Option Asked) (octets : List ℕ) → (class : Class) × IsClass closed profile v next octets class
some_class false profile v (Some asked) octets = elim (dec_spelling asked octets) [
  | inl (r, b, rest, s, e) ↦ elim (cases_Bool (fits profile v asked r)) [ inl t ↦ (Contradiction, search (s, e, t)) | inr f ↦ (OutOfPlace, search (s, e, f)) ]
  | inr none ↦ elim (dec_frame asked octets) [
    | inl (line, block, rest, f) ↦ (Malformed, record { initial = line; block = block; rest = rest; frame = f; nothing = λ r s. none (r, frame_octets line block, rest, s, f.whole) })
    | inr no_frame ↦ (Cut, λ line block rest f. no_frame (line, block, rest, f))
  ]
]
some_class closed profile v next octets = grind arith

-- octets behind answers have a class
pub class_there : (profile : Profile) (client : ClientStream) (server : List ℕ) (k : ℕ) → AnswersFirst client server k → (class : Class) × HasClass profile client server k class
class_there profile client server k before =
    let v = left_visible client server k before in
    let c = some_class v.closed profile v (asked_next (prompts_of client) before.answers) before.rest in
    (c.0, record { before = before; is_class = c.1 })

-- and one only
pub one_class : (profile : Profile) (client : ClientStream) (server : List ℕ) (k : ℕ) (c d : Class) → HasClass profile client server k c → HasClass profile client server k d → c ≡ d
one_class profile client server k c d h g = grind (arith, one_before, class_once, as_many, not_cut, not_malformed, one_fitting)

-- below, T explains one answer more than those before octets of a class
module _ (profile : Profile) (client : ClientStream) (server : List ℕ) (k : ℕ) (class : Class) (h : HasClass profile client server k class)
    (T : Spool) (more : List ℕ) (y : ExplainsUpTo profile T client server (k + 1) more) where
  one_answer : OneMore (prompts_of client) h.before.answers y.answers h.before.rest more
  one_answer = grind (arith, one_more)

  -- so they stand where something is asked on an open connection, and begin with an answer that fits
  pub contradicted : class ≡ Contradiction
  contradicted =
      let m = one_answer in
      let run = subst (λ answers. Run profile T start (prompts_of client) answers) m.is y.run in
      let is_open = run_open profile T start (prompts_of client) h.before.answers m.asked m.response m.next run in
      let fitting = run_fits profile T start (prompts_of client) h.before.answers m.asked m.response m.next run in
      class_once false profile (left_visible client server k h.before) (Some m.asked) h.before.rest class Contradiction (grind (arith, is_open, m.next))
      (record { response = m.response; front = m.front; rest = more; spells = m.spells; whole = m.whole; fitting = fitting })

-- the answers before a bad one
pub before_bad : (P : Spool → Type 0) (profile : Profile) (client : ClientStream) (server : List ℕ) (k : ℕ) → BadAmong P profile client server k → AnswersFirst client server k
before_bad P profile client server k ((S, rest, p, x, some), none) = grind arith

-- ---- octets that follow

-- the reading of both streams stays, with more octets left
before_longer : (client : ClientStream) (server more_client more_server : List ℕ) (k : ℕ) → AnswersFirst client server k → AnswersFirst (further client more_client) (server ++ more_server) k
before_longer client server more_client more_server k b = grind (arith, prompts_joined client more_client, spelled_longer (prompts_of client), append_assoc)

-- and so does the visible state that it leaves
visible_stays : (client : ClientStream) (server more_client : List ℕ) (k : ℕ) (b : AnswersFirst client server k)
    → visible_from start.visible (prompts_of (further client more_client)) b.answers ≡ left_visible client server k b
visible_stays client server more_client k b =
    grind (arith, prompts_joined client more_client, spelled_count (prompts_of client) b.answers b.octets b.spelled, visible_longer start.visible (prompts_of client))

-- where a frame is whole, or the connection closed
abbrev pub settled : Class → Bool → Type 0
settled Surplus closed = closed ≡ true
settled Cut closed = ⊥
settled class closed = IsTrue true

settled_by : (profile : Profile) (client : ClientStream) (server : List ℕ) (k : ℕ) (class : Class) (h : HasClass profile client server k class)
    → IsSettled client server k class → settled class (left_visible client server k h.before).closed
settled_by profile client server k Surplus h s = closed_before client server k h.before s.before ∙ s.closed
settled_by profile client server k class h s = grind arith

class_longer : (closed : Bool) (profile : Profile) (v : Visible) (ps qs : List Asked) (answers : List Response) (octets more : List ℕ) (class : Class) → settled class closed
    → IsClass closed profile v (asked_next ps answers) octets class → IsClass closed profile v (asked_next (ps ++ qs) answers) (octets ++ more) class
class_longer true profile v ps qs answers octets more class s h = h
class_longer false profile v ps qs answers octets more class s h = grind (arith, asked_longer ps qs answers, frame-longer, true≢false, cases_Bool, append_assoc)

-- a connection that is closed before an answer stays so
closed_longer : (client : ClientStream) (server more_client more_server : List ℕ) (k : ℕ) → IsClosedBefore client server k → IsClosedBefore (further client more_client) (server ++ more_server) k
unfolding before_longer
closed_longer client server more_client more_server k c =
    record { before = before_longer client server more_client more_server k c.before; closed = ap (λ (v : Visible). v.closed) (visible_stays client server more_client k c.before) ∙ c.closed }

-- and a settled class stays settled
pub settled_stays : (client : ClientStream) (server more_client more_server : List ℕ) (k : ℕ) (class : Class) → IsSettled client server k class
    → IsSettled (further client more_client) (server ++ more_server) k class
settled_stays client server more_client more_server k class s = grind (arith, closed_longer)

-- below, answer k is bad, of a settled class
module _ (profile : Profile) (client : ClientStream) (server more_client more_server : List ℕ) (k : ℕ) (class : Class) (h : HasClass profile client server k class)
    (s : IsSettled client server k class) where
  -- the class is the same
  pub class_stays : HasClass profile (further client more_client) (server ++ more_server) k class
  unfolding before_longer
  class_stays =
      let b = h.before in
      let q = prompts_joined client more_client in
      let v = left_visible client server k b in
      let there = class_longer v.closed profile v (prompts_of client) q.0 b.answers b.rest more_server class (settled_by profile client server k class h s) h.is_class in
      record { before = before_longer client server more_client more_server k b; is_class = grind (arith, visible_stays client server more_client k b, q.1, there) }

  -- who explains one answer more of the longer streams explains it of the shorter ones
  explains_shorter : (T : Spool) → (ExplainsFirst profile T client server k → ⊥) → ExplainsFirst profile T (further client more_client) (server ++ more_server) k → ⊥
  unfolding before_longer class_stays
  explains_shorter T none (more, y) =
      by v.closed (asked_next (prompts_of client) b.answers) refl (subst (λ class. IsClass v.closed profile v (asked_next (prompts_of client) b.answers) b.rest class) same h.is_class)
    where
      b : AnswersFirst client server k
      b = h.before

      v : Visible
      v = left_visible client server k b

      same : class ≡ Contradiction
      same = contradicted profile (further client more_client) (server ++ more_server) k class class_stays T more y

      -- the same answer stands in front of the shorter octets
      by : (closed : Bool) (next : Option Asked) → asked_next (prompts_of client) b.answers ≡ next → IsClass closed profile v next b.rest Contradiction → ⊥
      by false (Some asked) e a =
          let q = prompts_joined client more_client in
          let c : AnswersFirst client server (k + 1) = record {
            answers = b.answers ++ a.response ∷ [];
            octets = b.octets ++ a.front;
            rest = a.rest;
            count = omega (arith, length-append b.answers (a.response ∷ []), b.count);
            spelled = spelled_snoc (prompts_of client) b.answers b.octets a.front asked a.response b.spelled e a.spells;
            whole = grind (arith, b.whole, a.whole, append_assoc);
          } in
          let d : AnswersFirst (further client more_client) (server ++ more_server) (k + 1) =
          record { answers = y.answers; octets = y.octets; rest = more; count = y.count; spelled = y.spelled; whole = y.whole } in
          let answers = (one_before (further client more_client) (server ++ more_server) (k + 1) (before_longer client server more_client more_server (k + 1) c) d).0 in
          none (a.rest, grind (arith, run_shorter profile T start (prompts_of client) q.0 c.answers, spelled_count (prompts_of client) c.answers c.octets c.spelled))
      by closed next e c = grind arith

  -- the answer is still bad among the same spools
  pub bad_stays : (P : Spool → Type 0) → BadAmong P profile client server k → BadAmong P profile (further client more_client) (server ++ more_server) k
  bad_stays P ((S, rest, p, x, some), none) =
      let q = prompts_joined client more_client in
      let run = run_longer profile S start (prompts_of client) q.0 x.answers x.run in
      let longer : ExplainsUpTo profile S (further client more_client) (server ++ more_server) k (rest ++ more_server) =
      search (arith, q.1, run, spelled_longer (prompts_of client) q.0 x.answers x.octets x.spelled, x.is_spool, x.count, x.whole, append_assoc) in
      ((S, rest ++ more_server, p, longer, some-stay rest more_server some), λ T p. explains_shorter T (none T p))
