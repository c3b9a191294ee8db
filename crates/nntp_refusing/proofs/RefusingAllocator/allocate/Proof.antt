-- A request is refused, or what the allocator inside answers is handed on.
use Rattle.std.proofs.{Common.{List, [], ◌∷◌, ◌≡◌, w64, refl, ap, false}, raw_atomic.Walks.{proved}, alloc.{Shapes.{after}, Calls.{Al, token, seen, Answer}}}
use Rattle.std.{proofs.alloc.Calls.{answer_val, Answer-typed, Answer-err, Takes, at_takes, Takes-goes}, specs.{Allocator.{block_if_ok}, Prelude.{Err}}}
use mathlib.Core.Bool.{Bool}
use mir.Syntax.{named}
use mir.Val.{Val}
use base.Logic.{emp, id⊢}
use base.Fml.{flft, ftrue, fsep}
use contract.BorrowLft.{◌⊑◌, ⊑_trans}
use contract.Monad.{fact, fact_i}
use contract.Running.{tables}
use prog.Memory.{size, align, capped}
use types.Kit.{‵, raw, prop, some, later, at_ret, Sq, ◌⊛◌, ◌$◌, ◌∵◌, !, qed, done, move, keep, drop, use0, use1, use2, split, split3, join, fsplit, fjoin}
use types.Kit.{feq_i, feq_l, pick, await, suffices}
use types.Part.{agg}
use types.Run.{enter, addr, lit, stop, fld, no_more, and_then, first, branches, skips, exec, returns, returns_within}
use types.ByLocal.{alloc_all, pass_all, free_all, look_at, get, through, sets, lands_as, env}
use denote.Builtin.{usize, bool}
use denote.Exit.{yes}
use denote.Laws.{Is, shows}
use denote.Opens.{shr_dup}
use denote.Plain.{uint_vals, uint_Tells}
use denote.RattleType.{owns}
use denote.Ref.{shr_vals, shr_Tells}
use denote.Signature.{plain, types_at}
use denote.Steps.{only, heard, nothing, peeks}
use denote.Triple.{Call.{calls_at}, Clauses.{lasts}, Spec.{triple_of}, Table.{framed}, Walked.{Stays, stay_dropped, walk_of, ends_at, Goes-dropped}}
use Rattle.nntp_refusing.proofs.Inner.{row, row_laws, inner_at, answer_laws, args, code_at, by_self, lends_inner}
use Rattle.nntp_refusing.proofs.RefusingAllocator.allocate.Statement.{statement}
use base.Share
use Rattle.nntp_refusing.specs.contracts.RefusingAllocator.allocate as f
use Rattle.nntp_refusing.proofs.RefusingAllocator.allocate.Code as code
use Rattle.nntp_refusing.specs.contracts.Refusing.refuses as r
use Rattle.nntp_refusing.proofs.Refusing.refuses.Met as refuses

module _ (Z : Al) where
  abbrev stayed : Stays (f.ended Z.row Z.g Z.d Z.drops).signature.params (f.ended Z.row Z.g Z.d Z.drops).kept
  stayed = (stay_dropped (by_self Z) yes, (stay_dropped (plain (λ _. usize)) yes, (stay_dropped (plain (λ _. usize)) yes, tt)))

pub allocate_spec : {M : Type 1} → statement M
allocate_spec 𝓤 𝓛 𝓜 𝓡 wired A L g d dd met md =
    let Z : Al = record { row = A; laws = L; g = g; d = d; drops = dd } in
    let T = f.ended A g d dd in
    let c = f.clauses A g d dd 𝓛 𝓜.mem 𝓡.returns in
    let W = walk_of 𝓛 T (stayed Z) c in
    let 𝓣 = tables 𝓤 𝓛.H 𝓜 𝓡 𝓡.env in
    let number = Goes-dropped 𝓛 2 (plain (λ _. usize)) yes (λ κs x w. refl) in
    proved 𝓛 T (stayed Z) c 𝓜 𝓡
    (Goes-dropped 𝓛 2 (by_self Z) yes (λ κs x w. refl), (number, (number, tt)))
    (f.Key.name (args Z)) (code_at Z code.function) (code.unfolded 𝓤 𝓛.H 𝓜 𝓡 wired (A, tt) d dd)
    (λ κs. (shr_vals, (uint_vals w64, (uint_vals w64, tt))))
    (λ κs. (shr_Tells (named 0) κs.0 (row Z), (uint_Tells w64, (uint_Tells w64, tt))))
    (λ κs qs bounds a τ are.
    let κ = κs.0 in let q = qs.0 in let p = a.0.ref_ptr in let x = a.0.now in let n = a.1.0 in let al = a.1.1.0 in
    let y : W.Ghost = ((κs, qs, bounds, a, (shr_vals a.0, (uint_vals w64 n, (uint_vals w64 al, tt)))), τ) in
    let Said = (capped (size τ) ≡ n) × (capped (align τ) ≡ al) in
    let at = inner_at Z p in
    let G = triple_of 𝓛 (r.signature A) (r.spec A g d dd 𝓛 𝓜.mem 𝓡.returns) in
    let count : G.Ghost = ((κs, qs, bounds, (a.0, tt), (shr_vals a.0, tt)), tt) in
    let ask = at_takes Z 𝓛 𝓜.mem 𝓡.returns κ q at x.inner n al τ in
    let out : (s : Answer.Denot) (w : Val) → Sq 𝓛 (‵ (Answer.own_val s (w ∷ [])) ∷ ‵ (block_if_ok (token Z x.inner) τ s) ∷ ‵ (flft κ q) ∷ ‵ (flft κs.1.0 qs.1.0) ∷ []) (prop (W.post y w)) = λ s w.
    suffices ! _ (ends_at 𝓛 T (stayed Z) c y w s (tt, (tt, (tt, tt))) (tt, (tt, (tt, tt)))) $
    nothing ! $ nothing ! $ fjoin ! $ nothing ! $ fjoin ! $ nothing ! $ fjoin ! $ join ! $
    nothing ! $ move ! (4 ∷ 0 ∷ []) $ join ! $ move ! (3 ∷ 0 ∷ []) $ join ! $ join ! $ done ! in
    qed 𝓛 (((‵ (flft κ q) ⊛ ‵ (flft κs.1.0 qs.1.0) ⊛ ‵ ftrue) ⊛ ‵ (owns (types_at T.signature.params κs) a y.0.4))
    ∷ (raw (fact 𝓤 (κs.1.0 ⊑ A.lives)) ⊛ raw (fact 𝓤 Said)) ∷ []) ∵
    move ! (1 ∷ []) $ split ! $ heard ! (κs.1.0 ⊑ A.lives) (λ lives. heard ! Said (λ said.
    split ! $ move ! (1 ∷ []) $ fsplit ! $ fsplit ! $ move ! (1 ∷ 3 ∷ []) $
    shr_dup ! (row Z) (row_laws Z).shr_laws x p.0 p.1 κ $ keep ! (0 ∷ 1 ∷ 2 ∷ []) $
    -- [the `&`, twice; the tokens]
    enter ! _ _ _ _ _ $ alloc_all ! (λ l. pass_all ! refl ((tt, tt), ((tt, record { fits = are.1.0.1 }), ((tt, record { fits = are.1.1.0.1 }), tt))) $
    feq_i ! (List Val) (shr_vals a.0) (shr_vals a.0) refl $ fjoin ! $ nothing ! $ move ! (1 ∷ 0 ∷ []) $ fjoin ! $ move ! (2 ∷ 0 ∷ []) $ join ! $
    nothing ! $ use0 𝓛 (raw (fact 𝓤 (κs.1.0 ⊑ A.lives))) (fact_i 𝓤 (κs.1.0 ⊑ A.lives) (emp 𝓤) lives) $ join ! $ move ! (1 ∷ 0 ∷ []) $
    use2 𝓛 (raw (G.pre count)) (id⊢ 𝓤 _) $
    calls_at ! (framed 𝓤 𝓛.H 𝓜 𝓣) G (refuses.met 𝓤 𝓛 𝓜 𝓡 (code.calls-nntp_refusing::Refusing::refuses 𝓡.env wired) A L g d dd met md) count
    (and_then ! (get ! refl) (no_more !)) (λ v.
    use1 𝓛 (later (some (λ (is_refused : Bool). ((‵ (flft κ q) ⊛ ‵ (flft κs.1.0 qs.1.0) ⊛ ‵ ftrue) ⊛ ‵ (bool.own_val is_refused (v ∷ []))) ⊛
    some (λ (ws : Unit {0} × Unit {0}). ‵ (lasts (r.ended A g d dd) κs (a.0, tt) ws) ⊛ ‵ ftrue)))) (id⊢ 𝓤 _) $
    await ! tt $ pick ! (λ is_refused. split ! $ split ! $ split3 ! $ move ! (2 ∷ []) $ drop ! $ move ! (2 ∷ []) $ feq_l ! (λ is_bool. move ! (2 ∷ []) $ drop ! $
    lands_as ! (ap only is_bool) refl (tt, tt) $
    -- [the tokens; the `&`]
    first ! $ branches ! (get ! refl)
    (λ refused. sets ! (agg ! (no_more !)) refl (tt, tt) $
    sets ! (agg ! (and_then ! (lit ! tt) (and_then ! (get ! refl) (no_more !)))) refl (Answer-typed false 0 0) $
    returns_within ! (W.post y) refl (look_at ! 0 refl) $ free_all ! refl $ keep ! (0 ∷ 1 ∷ []) $
    nothing ! $ use0 𝓛 (‵ (Answer.own_val (Err (record {})) (answer_val false 0 0 ∷ []))) (Answer-err 𝓛) $ out (Err (record {})) (answer_val false 0 0))
    (λ passed. skips ! $ exec ! 𝓣.C 𝓣.Λ (env (code_at Z code.function).locals l) (after 2 (code_at Z code.function).body) (at_ret _ (W.post y)) $
    sets ! (addr ! (through ! refl (fld ! refl (stop !)))) refl (tt, tt) $ move ! (2 ∷ 0 ∷ []) $
    use1 𝓛 (‵ (seen Z κ at x.inner)) (lends_inner Z 𝓛 κ p x) $
    use2 𝓛 (raw ((Takes Z 𝓛 𝓜.mem 𝓡.returns).pre ask)) (Takes-goes Z 𝓛 𝓜.mem 𝓡.returns κ q at x.inner (⊑_trans κ κs.1.0 A.lives bounds.0 lives) n al τ said.0 said.1 are.1.0.1 are.1.1.0.1) $
    calls_at ! (framed 𝓤 𝓛.H 𝓜 𝓣) (Takes Z 𝓛 𝓜.mem 𝓡.returns) (met.allocate dd) ask
    (and_then ! (get ! refl) (and_then ! (get ! refl) (and_then ! (get ! refl) (no_more !)))) (λ w.
    use1 𝓛 (later (some (λ (s : Answer.Denot). ((‵ (flft κ (Share.left q)) ⊛ ‵ (flft κ (Share.right q)) ⊛ ‵ ftrue) ⊛ ‵ (Answer.own_val s (w ∷ []))) ⊛
    some (λ (ws : Unit {0} × (Unit {0} × (Unit {0} × Unit {0}))). ‵ (fsep ftrue (fsep ftrue (fsep ftrue ftrue))) ⊛ ‵ (block_if_ok (token Z x.inner) τ s))))) (id⊢ 𝓤 _) $
    await ! tt $ pick ! (λ s. split ! $ split ! $ split3 ! $ use2 𝓛 (‵ (flft κ q)) (𝓛.lfts.lft_join κ q) $ move ! (3 ∷ []) $ pick ! (λ ws. split ! $ drop ! $
    -- [the block; the token; nothing; the answer; the other token]
    move ! (3 ∷ []) $ peeks ! Answer (Is Answer) (shows 𝓛 Answer) s (w ∷ []) (λ is.
    lands_as ! refl refl (((answer_laws).lawful 𝓛).typed s (w ∷ []) is).0 $
    returns ! (look_at ! 0 refl) $ free_all ! refl $ keep ! (0 ∷ 1 ∷ 2 ∷ 4 ∷ []) $ out s w))))))))))))
