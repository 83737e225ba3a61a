-- Code i of the word that a packer's call gives is the code of lane i. Assumes nothing.
use Prim.Native.Nat.{ℕ, zero, suc, ◌/◌, ◌^◌, ◌<◌, ◌≤◌}
use mathlib.Core.List.{List, [], ◌∷◌, map}
use mathlib.Core.Path.{◌≡◌, refl, ap, ◌∙◌}
use native.Mathlib.Omega.{arith}
use lib.Dec.{T}
use lib.ListN.{length, take, get_or}
use Rattle.readings.specs.declared.Reading.{Reading}
use Rattle.values.specs.declared.Value.{Value}
use Rattle.values.specs.Value.{lane_count, lane, value}
use Rattle.numeric.specs.Parts.{parts, joined}
use Rattle.builtins.proofs.Parts.{lowest, others}
use Rattle.brighter.specs.Brighter.{Coding, code_of}
use Rattle.formats.specs.Formats.{Format, x8snorm, x8unorm, x16snorm, x16unorm, x16float, lanes_kind, trips}
use Rattle.formats.proofs.LaneLaws.{coding, laws}
use Rattle.formats.proofs.PackedFormats.{packs}
use Rattle.gradients.specs.Gradients.{packed_at, Taken, EachPacker}

joined_code : (w : ℕ) (f : ℕ → ℕ) → ((x : ℕ) → f x < 2 ^ w) → (n : ℕ) (l : List ℕ) → n ≤ length l → (i : ℕ) → i < n → get_or (parts w n (joined w (map f (take n l)))) i 0 ≡ f (get_or l i 0)
joined_code w f b zero l h i k = absurd (omega arith)
joined_code w f b (suc n) [] h i k = absurd (omega arith)
joined_code w f b (suc n) (x ∷ xs) h zero k = lowest w (joined w (map f (take n xs))) (b x)
joined_code w f b (suc n) (x ∷ xs) h (suc i) k = rw (others w (joined w (map f (take n xs))) (b x)) (joined_code w f b n xs (omega arith) i (omega arith))

-- a format whose codes are those of k
abbrev pub CodesOf : Reading → Format → Coding → Type 0
CodesOf r f k = (v : Value) → Taken f v → (i : ℕ) → i < lane_count (lanes_kind f) → packed_at r f v i ≡ code_of r k (lane v i)

codes : (r : Reading) (f : Format) → T (trips r f) → 32 / lane_count (lanes_kind f) ≡ (coding r f).width → lane_count (lanes_kind f) ≤ 16 → (v : Value) → Taken f v → (i : ℕ) → i < lane_count (lanes_kind f) → packed_at r f v i ≡ (coding r f).code (lane v i)
unfolding value
codes r f t e few v h i l =
    let c = coding r f in
    let n = lane_count (lanes_kind f) in
    ap (λ (u : Value). get_or (parts (32 / n) n (lane u 0)) i 0) (packs r f t v h.formed.good h.kind)
    ∙ ap (λ (m : ℕ). get_or (parts (32 / n) n (joined c.width (map c.code (take m v.lanes)))) i 0) (ap lane_count h.kind)
    ∙ ap (λ (w : ℕ). get_or (parts w n (joined c.width (map c.code (take n v.lanes)))) i 0) e
    ∙ joined_code c.width c.code (laws r f).below n v.lanes (omega (arith, h.formed.lanes)) i l

pub packer_codes : (r : Reading) → EachPacker (CodesOf r)
packer_codes r = (((codes r x8snorm tt refl (omega arith), codes r x8unorm tt refl (omega arith)), (codes r x16snorm tt refl (omega arith), codes r x16unorm tt refl (omega arith))), codes r x16float tt refl (omega arith))
