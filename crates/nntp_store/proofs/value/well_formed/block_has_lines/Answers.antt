use Rattle.std.{proofs.{Common.{arith, ◌≡◌, true, List, [], ◌∷◌, refl}, lemmas.Bool.{and_from, and_parts}}, specs.List.{list_all}}
use Rattle.nntp_wire.specs.{Inner.Octets.{are_octets}, Block.{AreClean}}
use Rattle.nntp_article.specs.{Article.Parts.{Line}, Session.Spool.{is_line}}
use Rattle.nntp_store.proofs.value.well_formed.block_has_lines.Goals as goal

-- clean lines of octets are lines
clean_octets : (lines : List Line) → AreClean lines → list_all are_octets lines ≡ true → list_all is_line lines ≡ true
clean_octets [] clean octets = refl
clean_octets (l ∷ ls) clean octets = grind (arith, and_parts, and_from, clean_octets ls clean.1)

pub returns-clause-lines : goal.returns-clause-lines
returns-clause-lines g c = clean_octets c.args.block.now c.as_block-lent.ensures.clean c.as_block-lent.ensures.octets
