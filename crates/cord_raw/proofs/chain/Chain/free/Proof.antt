-- `free` follows the pointers from the first block on: of each block it reads where it leads, and then frees it.
use Rattle.std.proofs.Common.{◌≡◌, ℕ, zero, suc, ◌-◌, ◌≤◌, ◌<◌, ◌^◌, List, [], ◌∷◌, ◌++◌, length, refl, subst, arith, nltb→le, w64}
use Rattle.std.proofs.Common.{length-append}
use mathlib.Core.WellFounded.InvImage
use lib.WfN.{lt-wf_rel}
use seplogic.Ra.Ura.{Ura}
use mir.Syntax.{Body, ty_int}
use mir.Val.{Val, vunit, vint}
use base.Fraction.{full_share}
use base.Logic.{SProp, never_e}
use base.Fml.{ftrue, fat}
use contract.Running.{Running, tables, tables_of}
use prog.Model.{Model}
use prog.Wired.{Wired}
use prog.Wp.{Env, Out, Tables, Wp, at_return, after_seq, after_block, after_turn}
use types.Logic.{Logic}
use types.Tokens.{lft_new}
use types.Kit.{Item, Sq, ‵, raw, ◌⊛◌, some, given, later, at_ret, any_q, runs, ◌$◌, ◌∵◌, !, qed, by, done, move, keep, drop, use1, use2}
use types.Kit.{split, join, fsplit, fjoin, feq_i, pick, learn, await, rewrite, suffices, group}
use types.Part.{whole, sub}
use types.Run.{enter, of_opd, unit_lit, bin, lit, and_then, no_more, load, look, stop, fld, first, blocks, branches, skips, jumps, exec}
use types.Run.{returns, loops, again, Below}
use types.ByLocal.{alloc_all, pass_all, free_all, look_at, get, get_in, through, sets, sets_last, lands_as, lands_last, env, holding}
use types.ByLocal.{forget_but, take_at, give_at}
use denote.Exit.{yes}
use denote.Memory.{part_at}
use denote.Param.{layout}
use denote.Param.NoDrop as no_drop
use denote.RawPtr.{Ptr, block_ptr, null_ptr, ptr_val}
use denote.Signature.{plain}
use denote.Steps.{nothing}
use denote.Triple.Call.{calls_at, calls_at_last}
use denote.Triple.Table.{framed}
use denote.Triple.Walked.{Stays, stay_dropped, walk_of, ends_at, Goes-dropped}
use Rattle.core.proofs.alloc.Calls.{Goes-blank}
use Rattle.core.proofs.cell.Inside.{Good}
use Rattle.std_alloc.proofs.RcSteps.{Ptr-Good}
use Rattle.std_alloc.proofs.VecSteps.Shapes.{after}
use Rattle.std_alloc.proofs.boxed.Box.drop.Met as let_go
use Rattle.std_alloc.proofs.boxed.Box.from_raw.Met as from_raw
use Rattle.std.proofs.raw_atomic.Walks.{proved}
use Rattle.std.specs.contracts.alloc.Global as heap
use Rattle.std.proofs.alloc.Global.TheLaws as heap_laws
use Rattle.std.specs.contracts.impls.GlobalAllocator.TheImpl.{ghosts, dict}
use Rattle.std.proofs.impls.GlobalAllocator.TheImpl.Met as heap_met
use Rattle.cord_raw.specs.declared.block.Block.{Block}
use Rattle.cord_raw.specs.inner.Ownership.{links}
use Rattle.cord_raw.specs.contracts.block.Block.{the_row}
use Rattle.cord_raw.specs.contracts.chain.Chain.{the_row as C}
use Rattle.cord_raw.proofs.chain.Chain.TheLaws as chain_laws
use Rattle.cord_raw.proofs.Destruct++none.drop.Code as none
use Rattle.cord_raw.proofs.Fields.{pointer, Rest, pointer_apart, pointer_back}
use Rattle.cord_raw.proofs.Freeing.{A, B, A_laws, B_laws, bare_drop, goes, Boxed, Makes, Frees, tokens, at_makes, at_frees, makes_asks}
use Rattle.cord_raw.proofs.Freeing.{makes_gives, frees_asks, frees_gives}
use Rattle.cord_raw.proofs.Links.{links_append}
use Rattle.cord_raw.proofs.Words.{handle_val, handle_typed, chain_val, chain_typed, unpacks, few_fit}
use Rattle.cord_raw.specs.contracts.chain.Chain.free as f
use Rattle.cord_raw.proofs.chain.Chain.free.Statement.{statement}
use Rattle.cord_raw.proofs.chain.Chain.free.Code as code

abbrev stayed : Stays f.ended.signature.params f.ended.kept
stayed = (stay_dropped (plain (λ _. C)) yes, (stay_dropped (plain (λ _. heap.the_row)) yes, tt))

-- the blocks that are left, and where the first of them lies
abbrev Remaining : Type 0
Remaining = (p : Ptr) × (bs : List Block) × (length bs < 2 ^ 64)

abbrev Nearer : Remaining → Remaining → Type 0
Nearer t u = length t.1 < length u.1

abbrev turn : Body
turn = code.Mir.turn-1

module _ {M : Type 1} (𝓤 : Ura M) (𝓛 : Logic 𝓤) (𝓜 : Model 𝓤 𝓛.H) (𝓡 : Running 𝓤 𝓛.H 𝓜) (wired : Wired 𝓡.env code.code) where
  open 𝓛 use {H}

  abbrev 𝓣 : Tables 𝓤 H
  𝓣 = tables_of 𝓤 H 𝓜 (tables 𝓤 H 𝓜 𝓡 𝓡.env)

  module _ (y : (walk_of 𝓛 f.ended stayed (f.clauses 𝓛 𝓜.mem 𝓡.returns)).Ghost) (l : ℕ → ℕ) (α β : ℕ) where
    abbrev Post : Val → SProp 𝓤
    Post = (walk_of 𝓛 f.ended stayed (f.clauses 𝓛 𝓜.mem 𝓡.returns)).post y

    abbrev En : Env 𝓤 H
    En = env code.function.locals l

    abbrev Now : Remaining → List (Item 𝓤)
    Now t = ‵ (links t.0 t.1) ∷ tokens α β ∷ holding 𝓛 En ((2, handle_val) ∷ (5, ptr_val t.0) ∷ (6, vint w64 (length t.1)) ∷ [])

    abbrev Turned : Remaining → Out → SProp 𝓤
    Turned t = after_turn 𝓤 H (Below 𝓛 Nearer Now t)
        (after_block 𝓤 H (after_seq 𝓤 H (Wp 𝓤 H 𝓣.C 𝓣.Λ En (after 5 code.function.body) (at_return 𝓤 H En Post)) (at_return 𝓤 H En Post)))

    turns : (p : Ptr) (bs : List Block) (few : length bs < 2 ^ 64) →
        Sq 𝓛 (Now (p, bs, few)) (runs 𝓣.C 𝓣.Λ En turn (any_q (Turned (p, bs, few))))
    unfolding after_turn tables_of none.code
    turns p [] few =
        sets ! (of_opd ! (get ! refl)) refl (tt, record { fits = few }) $ sets ! (bin ! (lit ! tt) (get ! refl) tt) refl (tt, tt) $
        first ! $ branches ! (get ! refl) (λ more. absurd more)
        (λ over. jumps ! $ exec ! 𝓣.C 𝓣.Λ En (after 5 code.function.body) (at_ret En Post) $
        sets ! (of_opd ! (unit_lit !)) refl (tt, tt) $ returns ! (look_at ! 0 refl) $ free_all ! refl $ keep ! [] $
        suffices ! _ (ends_at 𝓛 f.ended stayed (f.clauses 𝓛 𝓜.mem 𝓡.returns) y vunit tt (tt, (tt, tt)) (tt, (tt, tt))) $
        nothing ! $ feq_i ! (List Val) (vunit ∷ []) (vunit ∷ []) refl $ nothing ! $ nothing ! $ join ! $ nothing ! $ join ! $ nothing ! $
        group ! 3 $ done !)
    turns null_ptr (x ∷ xs) few = fsplit ! $ fsplit ! $ keep ! (0 ∷ []) $ by ! (never_e 𝓤 _)
    turns (block_ptr b o) (x ∷ xs) few =
        let here : Remaining = (block_ptr b o, x ∷ xs, few) in let many : ℕ = suc (length xs) in let one : 1 ≤ many = omega arith in
        let fewer : length xs < 2 ^ 64 = omega (arith, few) in let fits : many - 1 < 2 ^ 64 = omega (arith, few) in
        let less : many - 1 ≡ length xs = omega arith in
        let drops = code.calls-cord_raw::Destruct++none::drop 𝓡.env wired in
        let drops_handle = no_drop.glues bare_drop 𝓡.env drops A A_laws M 𝓤 𝓛 𝓜 𝓡 in
        let drops_block = no_drop.glues bare_drop 𝓡.env drops B B_laws M 𝓤 𝓛 𝓜 𝓡 in
        let allocates =
        heap_met.passed 𝓡.env (code.calls-std_heap::GlobalAllocator::allocate 𝓡.env wired)
        (code.calls-std_heap::GlobalAllocator::deallocate 𝓡.env wired)
        (code.calls-std_heap::GlobalAllocator::grow 𝓡.env wired) (code.calls-std_heap::GlobalAllocator::shrink 𝓡.env wired) M 𝓤 𝓛 𝓜 𝓡 in
        let boxes = from_raw.met 𝓤 𝓛 𝓜 𝓡 (code.calls-std_alloc::boxed::Box::from_raw 𝓡.env wired) B A B_laws A_laws ghosts dict (goes A)
        allocates drops_handle in
        let frees = let_go.met 𝓤 𝓛 𝓜 𝓡 (code.calls-std_alloc::boxed::Box::drop 𝓡.env wired) B A B_laws A_laws ghosts dict (goes B) (goes A)
        allocates drops_block drops_handle in
        let fm = framed 𝓤 H 𝓜 (tables 𝓤 H 𝓜 𝓡 𝓡.env) in let mem = 𝓜.mem in let run = 𝓡.returns in
        sets ! (of_opd ! (get ! refl)) refl (tt, record { fits = few }) $ sets ! (bin ! (lit ! tt) (get ! refl) tt) refl (tt, tt) $
        first ! $ branches ! (get ! refl) (λ more. skips ! $ exec ! 𝓣.C 𝓣.Λ En (after 3 turn) (any_q (Turned here)) $
        fsplit ! $ fsplit ! $ use1 𝓛 (‵ (pointer 𝓛 x.next b o) ⊛ raw (Rest 𝓛 x b o)) (pointer_apart 𝓛 x b o) $ split ! $
        -- [its pointer; the rest of the block; the right to free it; the blocks after it; the tokens]
        first ! $ blocks ! $ sets_last ! (of_opd ! (load ! (through ! refl (fld ! refl (stop !))) (look ! 0 refl))) refl (Ptr-Good x.next) $
        exec ! 𝓣.C 𝓣.Λ En (after 4 turn) (any_q (Turned here)) $ sets ! (of_opd ! (get ! refl)) refl (Ptr-Good x.next) $
        use2 𝓛 (‵ (part_at the_row full_share x b o)) (pointer_back 𝓛 x x.next b o) $ fjoin ! $ move ! (0 ∷ 2 ∷ []) $
        -- [the block; the tokens; the blocks after it]
        first ! $ blocks ! $ sets ! (of_opd ! (get ! refl)) refl handle_typed $ sets ! (of_opd ! (get ! refl)) refl (tt, tt) $
        let z = at_makes 𝓛 mem run α β x b o in use2 𝓛 (raw ((Makes 𝓛 mem run α β).pre z)) (makes_asks 𝓛 mem run α β x b o) $
        calls_at_last ! fm (Makes 𝓛 mem run α β) boxes z (and_then ! (get ! refl) (and_then ! (get ! refl) (no_more !))) (λ u.
        use1 𝓛 (later (some (λ (d : Boxed.Denot). given (Good (layout Boxed) u) (‵ (Boxed.own_val d (u ∷ [])) ⊛ tokens α β))))
        (makes_gives 𝓛 mem run α β x b o u) $
        await ! tt $ pick ! (λ d. learn ! (λ good. split ! $
        -- [the box; the tokens; the blocks after it]
        lands_last ! refl good $ exec ! 𝓣.C 𝓣.Λ En (after 6 turn) (any_q (Turned here)) $ sets ! (of_opd ! (get ! refl)) refl good $
        let z' = at_frees 𝓛 mem run α β d u in use2 𝓛 (raw ((Frees 𝓛 mem run α β).pre z')) (frees_asks 𝓛 mem run α β d u) $
        calls_at ! fm (Frees 𝓛 mem run α β) frees z' (and_then ! (get ! refl) (no_more !)) (λ v.
        use1 𝓛 (later (given (v ≡ vunit) (tokens α β))) (frees_gives 𝓛 mem run α β d u v) $ await ! tt $ learn ! (λ is_unit.
        -- [the tokens; the blocks after it]
        lands_as ! is_unit refl (tt, tt) $
        sets ! (of_opd ! (get ! refl)) refl (Ptr-Good x.next) $ sets ! (of_opd ! (get ! refl)) refl (tt, record { fits = few }) $
        sets_last ! (bin ! (get ! refl) (lit ! tt) one) refl (tt, record { fits = fits }) $
        forget_but ! En (2 ∷ 5 ∷ 6 ∷ []) refl $ take_at ! 6 $ rewrite ! 0
        (λ (k : ℕ). ‵ (fat full_share (ty_int w64) (l 6) zero (vint w64 k))) less refl $ give_at ! 6 $
        move ! (1 ∷ 0 ∷ []) $ again ! Nearer Now here (x.next, xs, fewer) (omega arith)))))))
        (λ over. let none_left : many ≤ 0 = nltb→le 0 many over in absurd (omega arith))

pub free_spec : {M : Type 1} → statement M
unfolding tables_of
free_spec 𝓤 𝓛 𝓜 𝓡 wired =
    let c = f.clauses 𝓛 𝓜.mem 𝓡.returns in let W = walk_of 𝓛 f.ended stayed c in let fn = code.function in
    proved 𝓛 f.ended stayed c 𝓜 𝓡 (
      Goes-blank 𝓛 0 (plain (λ _. C)) yes (λ κs x w. tt),
      (Goes-dropped 𝓛 0 (plain (λ _. heap.the_row)) yes (λ κs x w. refl), tt),
    )
    f.Key.name fn (code.unfolded 𝓤 𝓛.H 𝓜 𝓡 wired)
    (λ κs. ((λ d. chain_val d ∷ []), ((λ h. handle_val ∷ []), tt))) (λ κs. (chain_laws.lowers.val_is, (heap_laws.lowers.val_is, tt)))
    (λ κs qs bounds a g are.
    let d = a.0 in let y : W.Ghost = ((κs, qs, bounds, a, (chain_val d ∷ [], (handle_val ∷ [], tt))), g) in
    let all : List Block = d.older ++ d.newest ∷ [] in
    let many : d.count ≡ length all = let here = d.counted in let more = length-append d.older (d.newest ∷ []) in omega arith in
    let few : length all < 2 ^ 64 = subst (λ n. n < 2 ^ 64) many (few_fit d) in
    qed 𝓛 ((‵ ftrue ⊛ ‵ (C.own_val d (chain_val d ∷ [])) ⊛ ‵ (heap.the_row.own_val a.1.0 (handle_val ∷ [])) ⊛ ‵ ftrue) ∷ ‵ ftrue ∷ []) ∵
    split ! $ drop ! $ split ! $ unpacks ! d (chain_val d ∷ []) (λ _. fsplit ! $ keep ! (0 ∷ 1 ∷ []) $
    -- [the older blocks; the newest]
    nothing ! $ move ! (2 ∷ 0 ∷ []) $ fjoin ! $ rewrite ! 0 (λ (p : Ptr). ‵ (links p (d.newest ∷ []))) d.leads refl $ move ! (1 ∷ 0 ∷ []) $
    use2 𝓛 (‵ (links d.first all)) (links_append 𝓛 d.first d.older (d.newest ∷ [])) $
    enter ! _ _ _ _ _ $ alloc_all ! (λ l. pass_all ! refl (chain_typed 𝓛 d (few_fit d), (handle_typed, tt)) $
    lft_new ! tt (λ α. lft_new ! tt (λ β. nothing ! $ move ! (1 ∷ 0 ∷ []) $ join ! $ move ! (1 ∷ 0 ∷ []) $ join ! $ move ! (1 ∷ []) $
    -- [all blocks; the tokens]
    sets ! (of_opd ! (get_in ! (fld ! refl (stop !)) (sub ! 0 refl (whole !)))) refl (Ptr-Good d.first) $
    sets ! (of_opd ! (get_in ! (fld ! refl (stop !)) (sub ! 2 refl (whole !)))) refl (tt, record { fits = few_fit d }) $
    sets ! (of_opd ! (get ! refl)) refl (Ptr-Good d.first) $ sets ! (of_opd ! (get ! refl)) refl (tt, record { fits = few_fit d }) $
    forget_but ! (env fn.locals l) (2 ∷ 5 ∷ 6 ∷ []) refl $ take_at ! 6 $ rewrite ! 0
    (λ (k : ℕ). ‵ (fat full_share (ty_int w64) (l 6) zero (vint w64 k))) many refl $ give_at ! 6 $
    first ! $ blocks ! $ loops ! (𝓣 𝓤 𝓛 𝓜 𝓡 wired) Nearer (InvImage.wf (λ (t : Remaining). length t.1) lt-wf_rel.wf)
    (Now 𝓤 𝓛 𝓜 𝓡 wired y l α β)
    (λ t. turns 𝓤 𝓛 𝓜 𝓡 wired y l α β t.0 t.1 t.2) (d.first, all, few))))))
