-- Bytes that come again.
use Rattle.std.proofs.Common.{◌≡◌, ◌+◌, ◌-◌, ◌<◌, ◌≤◌, ℕ, List, arith, sym, ap, ◌∙◌}
use Rattle.std.proofs.lemmas.Bool.{cases_lt}
use Rattle.std.proofs.Math.Logic.{⊎_elim}
use Rattle.std.specs.Prelude.{slice_index}

-- what comes again after `done` places comes again after twice as many
pub again_twice : (f : ℕ → ℕ) (done : ℕ) → ((k : ℕ) → f (k + done) ≡ f k) → (k : ℕ) → f (k + (done + done)) ≡ f k
again_twice f done again k =
    let one : k + (done + done) ≡ (k + done) + done = omega arith in
    ap f one ∙ again (k + done) ∙ again k

-- copies of the first bytes are the next ones, where they come again there
pub copies_after : (f : ℕ → ℕ) (start done count : ℕ) (old new : List ℕ) → count ≤ done → ((k : ℕ) → f (k + done) ≡ f k) →
    ((k : ℕ) → k < done → slice_index old k ≡ f (start + k)) → ((k : ℕ) → k < done → slice_index new k ≡ slice_index old k) →
    ((k : ℕ) → k < count → slice_index new (done + k) ≡ slice_index old k) → (k : ℕ) → k < done + count → slice_index new k ≡ f (start + k)
copies_after f start done count old new few again bytes prefix beyond k below = ⊎_elim before after (cases_lt k done) where
  before : k < done → slice_index new k ≡ f (start + k)
  before h = prefix k h ∙ bytes k h

  after : done ≤ k → slice_index new k ≡ f (start + k)
  after h =
      let j = k - done in
      let same : done + j ≡ k = omega (arith, h) in
      let moved : (start + j) + done ≡ start + k = omega (arith, h) in
      let inside : j < count = omega (arith, h, below) in
      let within : j < done = omega (arith, inside, few) in
      ap (slice_index new) (sym same) ∙ beyond j inside ∙ bytes j within ∙ sym (again (start + j)) ∙ ap f moved
