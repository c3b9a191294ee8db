use Rattle.std.proofs.{Common.{◌≡◌, ◌∙◌, sym, subst}, lemmas.Slice.Eq.{bytes_eq-Decides}}
use Rattle.memchr.specs.Find.{FindsNeedle}
use Rattle.nntp_wire.specs.{Octets.{crlf}, Inner.Block.{end_of_block}}
use Rattle.nntp_wire.proofs.search.find.Goals as goal

pub returns-then-eq : goal.returns-then-eq
returns-then-eq c =
    let same : c.args.needle.now ≡ crlf = (bytes_eq-Decides c.args.needle.now c.as_slice.result.now).0 (sym c.eq.ensures ∙ c.if-eq.true) ∙ c.as_slice.ensures in
    subst (λ needle. FindsNeedle c.args.octets.now needle 0 c.find_crlf.result) (sym same) c.find_crlf.ensures

pub returns-then-eq-2 : goal.returns-then-eq-2
returns-then-eq-2 c =
    let same : c.args.needle.now ≡ end_of_block = (bytes_eq-Decides c.args.needle.now c.as_slice-2.result.now).0 (sym c.eq-2.ensures ∙ c.if-eq-2.true) ∙ c.as_slice-2.ensures in
    subst (λ needle. FindsNeedle c.args.octets.now needle 0 c.find_block_end.result) (sym same) c.find_block_end.ensures
