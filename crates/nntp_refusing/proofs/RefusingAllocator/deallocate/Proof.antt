-- The block goes back to the allocator inside.
use Rattle.std.proofs.{Common.{List, [], ◌∷◌, ◌≡◌, w64, refl}, raw_atomic.Walks.{proved}, alloc.Calls.{Al, token, seen, Gives, at_gives, Gives-goes}}
use Rattle.std.{proofs.alloc.Calls.{Gives-Gives}, specs.Allocator.{owned_block}}
use mir.Syntax.{named}
use mir.Val.{Val, vunit}
use base.Logic.{fst∗, never}
use base.Fml.{flft, ftrue}
use contract.BorrowLft.{◌⊑◌, ⊑_trans}
use contract.Monad.{fact}
use contract.Running.{tables}
use prog.Memory.{size, align, capped}
use prog.Wp.{WpFn}
use types.Logic.{sem}
use types.Kit.{fjoin, ‵, raw, prop, later, given, ◌⊛◌, ◌$◌, ◌∵◌, !, qed, done, move, keep, use1, split, split3, join, fsplit, feq_i, learn, await, regoal}
use types.Kit.{suffices, group}
use types.Run.{enter, of_opd, addr, stop, fld, unit_lit, no_more, and_then, returns}
use types.ByLocal.{alloc_all, pass_all, free_all, look_at, get, through, sets, lands_as}
use denote.Builtin.{usize, RawPtr}
use denote.Exit.{yes}
use denote.Plain.{uint_vals, uint_Tells}
use denote.RattleType.{owns}
use denote.RawPtr.{Ptr, block_ptr, null_ptr, in_a_block, rawptr_vals, rawptr_Tells}
use denote.Ref.{shr_vals, shr_Tells}
use denote.Signature.{plain, types_at}
use denote.Steps.{heard, nothing}
use denote.Triple.{Call.{calls_at}, Table.{framed}, Walked.{Stays, stay_dropped, walk_of, ends_at, Goes-dropped}}
use Rattle.nntp_refusing.proofs.{Inner.{row, inner_at, args, code_at, by_self, lends_inner}, RefusingAllocator.deallocate.Statement.{statement}}
use Rattle.nntp_refusing.specs.contracts.RefusingAllocator.deallocate as f
use Rattle.nntp_refusing.proofs.RefusingAllocator.deallocate.Code as code

module _ (Z : Al) where
  abbrev stayed : Stays (f.ended Z.row Z.g Z.d Z.drops).signature.params (f.ended Z.row Z.g Z.d Z.drops).kept
  stayed = (stay_dropped (by_self Z) yes, (stay_dropped (plain (λ _. RawPtr)) yes, (stay_dropped (plain (λ _. usize)) yes, (stay_dropped (plain (λ _. usize)) yes, tt))))

pub deallocate_spec : {M : Type 1} → statement M
deallocate_spec 𝓤 𝓛 𝓜 𝓡 wired A L g d dd met md =
    let Z : Al = record { row = A; laws = L; g = g; d = d; drops = dd } in
    let T = f.ended A g d dd in
    let c = f.clauses A g d dd 𝓛 𝓜.mem 𝓡.returns in
    let W = walk_of 𝓛 T (stayed Z) c in
    let 𝓣 = tables 𝓤 𝓛.H 𝓜 𝓡 𝓡.env in
    let number = Goes-dropped 𝓛 2 (plain (λ _. usize)) yes (λ κs x w. refl) in
    proved 𝓛 T (stayed Z) c 𝓜 𝓡
    (Goes-dropped 𝓛 2 (by_self Z) yes (λ κs x w. refl), (Goes-dropped 𝓛 2 (plain (λ _. RawPtr)) yes (λ κs x w. refl), (number, (number, tt))))
    (f.Key.name (args Z)) (code_at Z code.function) (code.unfolded 𝓤 𝓛.H 𝓜 𝓡 wired (A, tt) d dd)
    (λ κs. (shr_vals, (rawptr_vals, (uint_vals w64, (uint_vals w64, tt)))))
    (λ κs. (shr_Tells (named 0) κs.0 (row Z), (rawptr_Tells, (uint_Tells w64, (uint_Tells w64, tt)))))
    (λ κs qs bounds a τ are.
    let κ = κs.0 in let q = qs.0 in let p = a.0.ref_ptr in let x = a.0.now in let n = a.1.1.0 in let al = a.1.1.1.0 in
    let y : Ptr → W.Ghost = λ r. ((κs, qs, bounds, (a.0, (r, a.1.1)), (shr_vals a.0, (rawptr_vals r, (uint_vals w64 n, (uint_vals w64 al, tt))))), τ) in
    let Said = (capped (size τ) ≡ n) × (capped (align τ) ≡ al) in
    qed 𝓛 (((‵ (flft κ q) ⊛ ‵ (flft κs.1.0 qs.1.0) ⊛ ‵ ftrue) ⊛ ‵ (owns (types_at T.signature.params κs) a (y a.1.0).0.4))
    ∷ (raw (fact 𝓤 (κs.1.0 ⊑ A.lives)) ⊛ raw (fact 𝓤 Said) ⊛ ‵ (owned_block (token Z x.inner) τ a.1.0)) ∷ []) ∵
    move ! (1 ∷ []) $ split3 ! $ heard ! (κs.1.0 ⊑ A.lives) (λ lives. heard ! Said (λ said.
    in_a_block ! a.1.0 (owned_block (token Z x.inner) τ) (fst∗ 𝓤 (never 𝓤) (sem 𝓛 (token Z x.inner τ null_ptr))) (λ b o e.
    let at = inner_at Z p in let call = at_gives Z 𝓛 𝓜.mem 𝓡.returns κ q at x.inner b o n al τ in
    regoal ! (λ r. prop (WpFn 𝓤 𝓛.H 𝓣.C 𝓣.Λ (code_at Z code.function) (W.args (y r)) (W.post (y r)))) e refl $
    fsplit ! $ move ! (2 ∷ []) $ split ! $ split3 ! $ move ! (3 ∷ []) $ fsplit ! $ fsplit ! $ move ! (1 ∷ []) $
    use1 𝓛 (‵ (seen Z κ (inner_at Z p) x.inner)) (lends_inner Z 𝓛 κ p x) $
    keep ! (0 ∷ 3 ∷ 4 ∷ 6 ∷ 7 ∷ []) $
    -- [the inner allocator's `&`; the two tokens; the block; the right to free it]
    enter ! _ _ _ _ _ $ alloc_all ! (λ l. pass_all ! refl ((tt, tt), ((tt, tt), ((tt, record { fits = are.1.1.0.1 }), ((tt, record { fits = are.1.1.1.0.1 }), tt)))) $
    sets ! (addr ! (through ! refl (fld ! refl (stop !)))) refl (tt, tt) $
    move ! (3 ∷ 4 ∷ 0 ∷ 1 ∷ []) $ group ! 4 $
    use1 𝓛 (raw ((Gives Z 𝓛 𝓜.mem 𝓡.returns).pre call)) (Gives-goes Z 𝓛 𝓜.mem 𝓡.returns κ q at x.inner (⊑_trans κ κs.1.0 A.lives bounds.0 lives) b o n al τ said.0 said.1 are.1.1.0.1 are.1.1.1.0.1) $
    calls_at ! (framed 𝓤 𝓛.H 𝓜 𝓣) (Gives Z 𝓛 𝓜.mem 𝓡.returns) (met.deallocate dd) call
    (and_then ! (get ! refl) (and_then ! (get ! refl) (and_then ! (get ! refl) (and_then ! (get ! refl) (no_more !))))) (λ v.
    use1 𝓛 (later (given (v ≡ vunit) (‵ (flft κ q)))) (Gives-Gives Z 𝓛 𝓜.mem 𝓡.returns κ q at x.inner b o n al τ v) $ await ! tt $ learn ! (λ is_unit.
    lands_as ! is_unit refl (tt, tt) $ sets ! (of_opd ! (unit_lit !)) refl (tt, tt) $
    returns ! (look_at ! 0 refl) $ free_all ! refl $
    suffices ! _ (ends_at 𝓛 T (stayed Z) c (y (block_ptr b o)) vunit tt (tt, (tt, (tt, (tt, tt)))) (tt, (tt, (tt, (tt, tt))))) $
    -- [the two tokens]: the tokens, nothing of the four parameters, the result
    nothing ! $ move ! (2 ∷ 0 ∷ []) $ join ! $ move ! (1 ∷ 0 ∷ []) $ join ! $
    feq_i ! (List Val) (vunit ∷ []) (vunit ∷ []) refl $
    nothing ! $ nothing ! $ fjoin ! $ nothing ! $ fjoin ! $ nothing ! $ fjoin ! $ nothing ! $ fjoin ! $ join ! $
    move ! (1 ∷ 0 ∷ []) $ join ! $ nothing ! $ move ! (1 ∷ 0 ∷ []) $ done !)))))))
