-- What the blocks of a chain own and lend, taken apart and put together.
use Rattle.std.proofs.Common.{◌≡◌, ℕ, zero, suc, ◌≤◌, ◌<◌, List, [], ◌∷◌, ◌++◌, length, take, get_or, refl, arith}
use mir.Raw.{raw as bare}
use seplogic.Ra.Ura.{Ura}
use base.Fml.{Lft, Incl}
use base.Fraction.{full_share}
use types.Logic.{Logic, sem}
use types.Kit.{‵, ◌$◌, ◌∵◌, !, qed, done, move, drop, keep, by, use2, fsplit, fjoin}
use base.Logic.{ent, sep}
use Rattle.cord_raw.specs.inner.Blocks.{place_after}
use denote.Memory.{lone}
use denote.RawPtr.{Ptr, lies_at}
use denote.Sharing.{ShrLaws}
use denote.SharingLaws.{beside_shr_laws, nothing_shr_laws}
use denote.Shares.{Shares-less}
use denote.Struct.Lending.{lent_at, lent_at_shr_laws, Lends-lies, Lends-first, Lends, Lends-both, Lends-nothing}
use base.Fml.{ftrue}
use Rattle.cord_raw.specs.declared.block.Block.{Block}
use Rattle.cord_raw.specs.contracts.block.Block as block
use Rattle.cord_raw.specs.inner.Ownership.{frees, block_owns, links, chain_owns, links_lent, chain_lent}
use Rattle.cord_raw.proofs.block.Block.TheLaws as laws

links_lent_laws : (p : Ptr) (bs : List Block) → ShrLaws (links_lent p bs)
links_lent_laws p [] = nothing_shr_laws
links_lent_laws p (b ∷ bs) = beside_shr_laws _ _ (lent_at_shr_laws block.the_row laws.the_row_laws.shr_laws p b) (links_lent_laws b.next bs)

pub chain_lent_laws : (p : Ptr) (bs : List Block) (q : Ptr) (b : Block) → ShrLaws (chain_lent p bs q b)
chain_lent_laws p bs q b = beside_shr_laws _ _ (links_lent_laws p bs) (lent_at_shr_laws block.the_row laws.the_row_laws.shr_laws q b)

module _ {M : Type 1} {𝓤 : Ura M} (𝓛 : Logic 𝓤) (l : Lft) (inc : Incl l block.the_row.lives) where
  Lends-block : (p : Ptr) (b : Block) → Lends 𝓛 (block_owns p b) (lent_at block.the_row p b) l
  Lends-block p b =
      Lends-first 𝓛 (lies_at block.the_row full_share p b) (frees (bare (lone block.the_row.mir)) p) (lent_at block.the_row p b) l
      (Lends-lies 𝓛 block.the_row l p b (Shares-less 𝓛 block.the_row block.the_row.lives l inc (laws.the_row_laws.shares 𝓛) b))

  Lends-links : (p : Ptr) (bs : List Block) → Lends 𝓛 (links p bs) (links_lent p bs) l
  Lends-links p [] = Lends-nothing 𝓛 ftrue l
  Lends-links p (b ∷ bs) = Lends-both 𝓛 (block_owns p b) (links b.next bs) (lent_at block.the_row p b) (links_lent b.next bs) l
      (Lends-block p b) (Lends-links b.next bs)

  pub Lends-chain : (p : Ptr) (bs : List Block) (q : Ptr) (b : Block) → Lends 𝓛 (chain_owns p bs q b) (chain_lent p bs q b) l
  Lends-chain p bs q b = Lends-both 𝓛 (links p bs) (block_owns q b) (links_lent p bs) (lent_at block.the_row q b) l (Lends-links p bs)
      (Lends-block q b)

-- where blocks lead that stand before others
pub place_append : (p : Ptr) (xs ys : List Block) → place_after p (xs ++ ys) ≡ place_after (place_after p xs) ys
place_append p [] ys = refl
place_append p (x ∷ xs) ys = place_append x.next xs ys

module _ {M : Type 1} {𝓤 : Ura M} (𝓛 : Logic 𝓤) where
  -- blocks linked after others
  pub links_append : (p : Ptr) (xs ys : List Block) → ent 𝓤 (sep 𝓤 (sem 𝓛 (links p xs)) (sem 𝓛 (links (place_after p xs) ys)))
      (sem 𝓛 (links p (xs ++ ys)))
  links_append p [] ys = qed 𝓛 (‵ (links p []) ∷ ‵ (links p ys) ∷ []) ∵ drop ! $ done !
  links_append p (x ∷ xs) ys = qed 𝓛 (‵ (links p (x ∷ xs)) ∷ ‵ (links (place_after p (x ∷ xs)) ys) ∷ []) ∵ fsplit ! $ move ! (1 ∷ 2 ∷ []) $
      use2 𝓛 (‵ (links x.next (xs ++ ys))) (links_append x.next xs ys) $ move ! (1 ∷ 0 ∷ []) $ fjoin ! $ done !

-- the place of the block after the one at i
pub next_place : (p : Ptr) (bs : List Block) (i : ℕ) (x : Block) → i < length bs → (get_or bs i x).next ≡ place_after p (take (suc i) bs)
next_place p [] i x inside = absurd (omega arith)
next_place p (b ∷ bs) zero x inside = refl
next_place p (b ∷ bs) (suc i) x inside = next_place b.next bs i x (omega arith)

-- what a `&` holds of the block at i
pub lent_nth : {M : Type 1} {𝓤 : Ura M} (𝓛 : Logic 𝓤) (κ : Lft) (p : Ptr) (bs : List Block) (last : Block) (i : ℕ) (x : Block) →
    i ≤ length bs
    → ent 𝓤 (sem 𝓛 (chain_lent p bs (place_after p bs) last κ))
    (sem 𝓛 (lent_at block.the_row (place_after p (take i bs)) (get_or (bs ++ last ∷ []) i x) κ))
lent_nth 𝓛 κ p [] last zero x inside = qed 𝓛 (‵ (chain_lent p [] p last κ) ∷ []) ∵ fsplit ! $ keep ! (1 ∷ []) $ done !
lent_nth 𝓛 κ p [] last (suc i) x inside = absurd (omega arith)
lent_nth 𝓛 κ p (b ∷ bs) last zero x inside = qed 𝓛 (‵ (chain_lent p (b ∷ bs) (place_after b.next bs) last κ) ∷ []) ∵ fsplit ! $ fsplit ! $
    keep ! (0 ∷ []) $ done !
lent_nth 𝓛 κ p (b ∷ bs) last (suc i) x inside = qed 𝓛 (‵ (chain_lent p (b ∷ bs) (place_after b.next bs) last κ) ∷ []) ∵ fsplit ! $ fsplit !
    $ move ! (1 ∷ 2 ∷ []) $ fjoin ! $ keep ! (0 ∷ []) $
    by ! (lent_nth 𝓛 κ b.next bs last i x (omega arith))

-- a list that is not empty
pub uncons : (bs : List Block) → 0 < length bs → (x : Block) × (xs : List Block) × (bs ≡ x ∷ xs)
uncons [] more = absurd (omega arith)
uncons (x ∷ xs) more = (x, xs, refl)
