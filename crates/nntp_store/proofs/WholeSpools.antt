-- A spool is groups and articles that a spool may hold, each id with its article.
use Rattle.std.proofs.Common.{◌≡◌, ℕ, ◌≤◌, ◌<◌, ◌^◌, Ok, Err, true, IsSome, List, ◌++◌, Option, None, Some, is_some, length, refl, sym, ap, ◌∙◌, arith}
use Rattle.std.proofs.lemmas.{Bool.{and_from, and_parts, Decides.{nat_tests}}, List.{Folds.{list_all-append}, Sums.{AllPass-from_list_all}}}
use Rattle.std.{proofs.lemmas.List.Sums.{list_all-from_AllPass}, specs.{Cmp.{nat_cmp_total, Lexicographic.{nat_list_cmp_total, bytes_decides}}, FinMap.{get}}}
use Rattle.std.specs.{FinMap.{empty, nat_cmp-IsAntisymmetric}, List.{list_all}, Option.{option_map_or}, Ordering.{nat_cmp}, Prelude.{◌↔◌, unwrap_or}}
use Rattle.nntp_wire.{specs.Limit.{greatest}, proofs.DecidedLemmas.{group_name-iff, message_id-iff}}
use Rattle.nntp_article.specs.{Article.Parts.{Id, is_clean_head, said_id}, Session.{Machine.{is_article_number, says_own_id, is_same}, Spool.{Name, Spool}}}
use Rattle.nntp_article.specs.Session.Spool.{Numbers, numbers, IsSpool, is_line}
use Rattle.nntp_content.{specs.{Content.{all_known, ids_have_articles}, Inner.Content.{AreNumbers, IsContent}}, proofs.MapEntries.{value_of_some, some_is}}
use Rattle.nntp_content.proofs.{MapEntries.{empty_has, test_each}, ShownMaps.{octet_keys}}
use Rattle.nntp_store.specs.{Inner.Text.{IsWritten}, Limited.{LimitedSpool, IsWithinLimit}, Reading.{spool_at}, Text.{spool_text}}
use Rattle.nntp_store.{specs.declared.text.read_fault.ReadFault.{ReadFault}, proofs.{LineFields.{list_all_weaken}, NumbersInOrder.{num_between, no_numbers}}}
use Rattle.nntp_store.proofs.{NumbersRead.{ok_is}, TextRead.{text_takes, text_again, counted}}

num_is : (limit n : ℕ) → 1 ≤ n → n ≤ limit → is_article_number limit n ≡ true
num_is limit n a b = grind (arith, nat_tests)

-- what a head says is told by the test
own_said : (id : Id) (o : Option Id) → (option_map_or (λ said. is_same said id) o true ≡ true) ↔ ((said : Id) → o ≡ Some said → said ≡ id)
own_said id None = (λ own said e. absurd cc, λ h. refl)
own_said id (Some said) = (λ own other e. some_is other said (sym e) ∙ (bytes_decides said id).0 own, λ h. (bytes_decides said id).1 (h said refl))

module _ (limit : ℕ) (S : Spool) where
  -- what holds of no numbers, and of those of each group, holds of the numbers of each name
  in_numbers : (P : Numbers → Type 0) (name : Name) → P empty → ((N : Numbers) → get S.groups name ≡ Some N → P N) → P (numbers S name)
  in_numbers P name none some = grind arith

  all_known_if : (ids_have_articles S ≡ true) ↔ ((name : Name) (N : Numbers) → get S.groups name ≡ Some N → all_known S N ≡ true)
  all_known_if = test_each nat_list_cmp_total octet_keys (λ name N. all_known S N) S.groups

  known_if : (N : Numbers) → (all_known S N ≡ true) ↔ ((n : ℕ) (id : Id) → get N n ≡ Some id → is_some (get S.articles id) ≡ true)
  known_if N = test_each nat_cmp_total nat_cmp-IsAntisymmetric (λ n id. is_some (get S.articles id)) N

  pub to_spool : IsContent limit S → ids_have_articles S ≡ true → IsSpool limit S
  to_spool content known =
      let are = λ (name : Name). in_numbers (AreNumbers limit) name (no_numbers limit) (λ N e. (content.groups name N e).numbers) in
      record {
        names = λ name g. let N = value_of_some (get S.groups name) g in (group_name-iff name).0 (content.groups name N.0 N.1).is_name;
        numbers_in_limit = λ name n is. let id = value_of_some (get (numbers S name) n) is in num_between limit n ((are name).each n id.0 id.1).0;
        one_to_one = λ name. (are name).one_to_one;
        ids_have_articles = λ name n id. in_numbers (λ N. get N n ≡ Some id → IsSome (get S.articles id)) name (λ g. absurd (empty_has nat_cmp n id g))
            (λ N e. (known_if N).0 (all_known_if.0 known name N e) n id);
        ids = λ id is. let t = value_of_some (get S.articles id) is in (message_id-iff id).0 (content.articles id t.0 t.1).is_id;
        heads = λ id t g. let a = content.articles id t g in (grind (arith, and_parts), AllPass-from_list_all is_line (t.head ++ t.body) (grind (arith, list_all-append, and_from)));
        own_ids = λ id said t g says. (own_said id (said_id t.head)).0 (and_parts (is_clean_head t.head) (says_own_id id t.head) (content.articles id t g).head).1 said says;
      }

  pub content_of_spool : IsSpool limit S → IsContent limit S
  content_of_spool s = record {
    groups = λ name N g.
        let same : numbers S name ≡ N = ap (λ o. unwrap_or o empty) g in
        grind (arith, group_name-iff, num_is, message_id-iff);
    articles = λ id t g.
        let h = s.heads id t g in
        let lines = and_parts (list_all is_line t.head) (list_all is_line t.body) (sym (list_all-append is_line t.head t.body) ∙ list_all-from_AllPass is_line (t.head ++ t.body) h.1) in
        record {
          is_id = (message_id-iff id).1 (s.ids id (ap is_some g));
          head = and_from (is_clean_head t.head) (says_own_id id t.head)
              (grind (arith, and_from, list_all_weaken, and_parts))
              ((own_said id (said_id t.head)).1 (λ said says. s.own_ids id said t g says));
          head_lines = lines.0;
          body_lines = lines.1;
        };
  }

  pub spool_knows : IsSpool limit S → ids_have_articles S ≡ true
  spool_knows s = all_known_if.1 (λ name N g. (known_if N).1 (λ n id at. s.ids_have_articles name n id (ap (λ o. get (unwrap_or o empty) n) g ∙ at)))

-- ---- texts

pub read_is_text : (octets : List ℕ) (L : LimitedSpool) → spool_at octets ≡ Ok L → IsWithinLimit L × (octets ≡ spool_text L)
read_is_text octets L e = let read = text_takes octets L e in (to_spool (greatest L.limit) L.spool read.0 read.1, read.2)

pub written_is_read : (L : LimitedSpool) → IsWritten L → spool_at (spool_text L) ≡ Ok L
written_is_read L is = text_again L (content_of_spool (greatest L.limit) L.spool is.is_spool) is.line_counts (spool_knows (greatest L.limit) L.spool is.is_spool)

-- octets in memory that are the text of a spool
pub memory_is_read : (L : LimitedSpool) → IsWithinLimit L → length (spool_text L) < 2 ^ 64 → spool_at (spool_text L) ≡ Ok L
memory_is_read L is lt = written_is_read L (record { is_spool = is; line_counts = counted L lt })

pub same_text : (K L : LimitedSpool) → IsWritten K → IsWritten L → spool_text K ≡ spool_text L → K ≡ L
same_text K L k l e = ok_is K L (sym (written_is_read K k) ∙ ap spool_at e ∙ written_is_read L l)

-- what was read is the spool whose text the octets are
pub read_is_same : (octets : List ℕ) (K L : LimitedSpool) → length octets < 2 ^ 64 → spool_at octets ≡ Ok K → IsWithinLimit L → octets ≡ spool_text L → K ≡ L
read_is_same octets K L lt e is same = grind (arith, ok_is, memory_is_read)

-- octets with a fault are no text
pub fault_is_no_text : (octets : List ℕ) (fault : ReadFault) → length octets < 2 ^ 64 → spool_at octets ≡ Err fault → (L : LimitedSpool) → IsWithinLimit L → octets ≡ spool_text L → ⊥
fault_is_no_text octets fault lt e L is same = grind (arith, memory_is_read)
