use Rattle.std.proofs.{Common.{arith, ◌≡◌, ◌≢◌, ◌++◌, List, ℕ, subst, ap, ◌∙◌}, lemmas.{Bool.{false≢true, Decides.{Decides-eqb}}, List.{append_cancel_left}}}
use Rattle.std.{proofs.lemmas.{Slice.Eq.{strip_prefix_is, slice_eq-Decides}, Grind.{common_steps}}, specs.Option.{MatchOption}}
use Rattle.nntp_wire.{specs.{Octets.{crlf}, Inner.Block.{Sends}, Block.{sent}}, proofs.SubBlockLemmas.{article-iff, sent-append}}
use Rattle.nntp_wire.proofs.block.Block.is_article.Goals as goal

pub returns-in_default : goal.returns-in_default
returns-in_default c =
    let front = c.head.inside.sent.now in
    let back = crlf ++ sent c.args.body.now in
    let none : (rest : List ℕ) → c.self.inside.sent.now ≢ front ++ rest =
    subst (λ r. MatchOption r ((rest : List ℕ) → c.self.inside.sent.now ≢ front ++ rest) (λ x. c.self.inside.sent.now ≡ front ++ x.now)) c.in_default.is
    (strip_prefix_is Decides-eqb c.self.inside.sent.now front c.strip_prefix.result c.strip_prefix.ensures.cases) in grind (arith, false≢true, sent-append)

pub returns-in-Some-strip_prefix : goal.returns-in-Some-strip_prefix
returns-in-Some-strip_prefix c =
    let bytes = c.self.inside.sent.now in
    let front = c.head.inside.sent.now in
    let back = c.body.inside.sent.now in
    let rest = c.in-Some.rest.now in
    let behind = c.in-Some-strip_prefix.back.now in
    let first : bytes ≡ front ++ rest = subst (λ r. MatchOption r ((rest : List ℕ) → bytes ≢ front ++ rest) (λ x. bytes ≡ front ++ x.now)) c.in-Some.is
    (strip_prefix_is Decides-eqb bytes front c.strip_prefix.result c.strip_prefix.ensures.cases) in
    let second : rest ≡ crlf ++ behind = grind arith in
    let whole : bytes ≡ front ++ (crlf ++ behind) = first ∙ ap (λ t. front ++ t) second in
    let last = slice_eq-Decides Decides-eqb behind back c.eq.result c.eq.ensures in
    let iff = article-iff bytes front back c.args.self.now c.args.head.now c.args.body.now
    (subst (Sends bytes) c.self.view_is c.self.invariant) (subst (Sends front) c.head.view_is c.head.invariant) (subst (Sends back) c.body.view_is c.body.invariant) in
    grind (arith, append_cancel_left)

pub returns-in-None : goal.returns-in-None
returns-in-None c = grind (arith, common_steps)
