use Rattle.std.proofs.Common.{sym, subst, ap, rules}
use Rattle.nntp_facts.specs.Inner.Noted.{profile_kept}
use Rattle.nntp_theory.specs.Inner.Exchanged.{said_behind}
use Rattle.nntp_store.specs.Limited.{LimitedSpool}
use Rattle.nntp_witness.{specs.Inner.Witness.{IsWitness}, proofs.Aims.{noted_as_kept, noted_say, aim, witness_has}}
use Rattle.nntp_witness.proofs.given_spool.witness.Goals as goal

pub unreachable-requires : goal.unreachable-requires
unreachable-requires g c =
    let facts = c.args.facts.now in
    let G = aim (profile_kept facts) facts c.requires.0 c.requires.1 c.requires.2 in
    let memory = c.in-Err.ensures.given (said_behind facts.marks c.requires.0 c.requires.1) G.0 (noted_say facts c.requires.0 c.requires.1 c.requires.2)
    (witness_has facts c.requires.0 c.requires.1 G.0 G.1) in
    search (rules, memory)

pub returns-in-Ok-clause-given : goal.returns-in-Ok-clause-given
returns-in-Ok-clause-given g c = λ profile earlier past noted.
    let facts = c.args.facts.now in
    let stands = noted_as_kept profile facts earlier past noted in
    let G = aim (profile_kept facts) facts earlier past stands in
    let same = c.in-Ok.ensures.given (said_behind facts.marks earlier past) G.0 (noted_say facts earlier past stands) (witness_has facts earlier past G.0 G.1) in (
      subst (λ p. IsWitness p earlier past c.in-Ok.spool.spool) noted.profile_is
          (subst (IsWitness (profile_kept facts) earlier past) (ap (λ (L : LimitedSpool). L.spool) (sym same)) G.1),
      ap (λ (L : LimitedSpool). L.limit) same,
    )
