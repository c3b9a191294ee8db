use Rattle.std.proofs.{Common.{rules, refl, sym, ◌∙◌}, lemmas.Iterator.{Search.{all_from_yields_List}, Consumers.{YieldsList-from_first}}}
use borrow.Author.Tests.{tests}
use Rattle.nntp_wire.{specs.Listing.{is_version}, proofs.ListingLemmas.{are_versions-cons}}
use Rattle.nntp_wire.proofs.versions.are_versions.Goals as goal

pub returns-then-is_version : goal.returns-then-is_version
returns-then-is_version c = are_versions-cons c.args.words c.in-Some.first.now c.next.new.self c.all.result c.in-Some.ensures.steps (sym c.is_version.ensures ∙ c.if-is_version.true)
    (all_from_yields_List is_version _ _ c.all.result c.all.ensures.ran (YieldsList-from_first (λ x. x.now) (λ words. words) c.next.new.self refl) (λ x b q k. search (rules, tests)))
