-- For each format with packer and unpacker, in each reading that has it: packing what unpacking gives is the word's normal form, two words unpack alike exactly when their normal forms are equal, and any lanes
-- pack to a word that is its own normal form. A call of the packer or the unpacker is answered, its word is the joined codes of its lanes, and each lane obeys its format's laws. Assumes nothing.
use Prim.Native.Nat.{ℕ, ◌^◌, ◌<◌, ◌≤◌}
use mathlib.Core.Bool.{true}
use mathlib.Core.List.{List, [], ◌∷◌, map, map-map}
use mathlib.Core.Path.{◌≡◌, refl, ap, sym, ◌∙◌}
use native.Mathlib.Omega.{arith}
use borrow.Author.Tests.{lt-ltb}
use lib.Dec.{T}
use lib.Ieee.Bits.{is_true}
use lib.ListN.{length, length-map, length-take}
use Rattle.readings.specs.declared.Reading.{Reading}
use Rattle.readings.specs.declared.Reading.TheVariants as In
use Rattle.values.specs.declared.Scalar.TheVariants.{U32}
use Rattle.values.specs.declared.Kind.TheVariants.{Empty, One}
use Rattle.values.specs.declared.Value.{Value}
use Rattle.values.specs.Value.{lane_bits, scalar_of, lane_count, is_type, lanes_of, lane, value, empty_value, well_formed}
use Rattle.values.proofs.Formed.{formed}
use Rattle.values.proofs.Places.{itself}
use Rattle.numeric.specs.Parts.{parts, joined}
use Rattle.calls.specs.Table.{Only, Unary, takes}
use Rattle.builtins.specs.declared.Answer.{Answer}
use Rattle.builtins.specs.Pack.{word, packed, unpacked}
use Rattle.builtins.specs.Fold.{answered, answered_losing, answer_by}
use Rattle.formats.specs.Formats.{Format, x8snorm, x8unorm, x_i8, x_u8, x_i8_clamp, x_u8_clamp, x16snorm, x16unorm, x16float, packer, unpacker, lanes_kind, normal_form, trips, packing, unpacking, PackUnpack, SameLanes, PacksNormal}
use Rattle.builtins.proofs.Answers.{answers}
use Rattle.builtins.proofs.Packed.{value_lanes}
use Rattle.builtins.proofs.Parts.{joined_parts, length_parts}
use Rattle.formats.proofs.Codes.{parts_joined, kept_joined, parts_alike, parts_below}
use Rattle.formats.proofs.LaneLaws.{coding, laws}

-- ---- what computes in each format

by_format : (P : Format → Type 0) → P x8snorm → P x8unorm → P x_i8 → P x_u8 → P x_i8_clamp → P x_u8_clamp → P x16snorm → P x16unorm → P x16float → (f : Format) → P f
by_format P a b c d e g h i j x8snorm = a
by_format P a b c d e g h i j x8unorm = b
by_format P a b c d e g h i j x_i8 = c
by_format P a b c d e g h i j x_u8 = d
by_format P a b c d e g h i j x_i8_clamp = e
by_format P a b c d e g h i j x_u8_clamp = g
by_format P a b c d e g h i j x16snorm = h
by_format P a b c d e g h i j x16unorm = i
by_format P a b c d e g h i j x16float = j

packer_row : (f : Format) → takes (packer f) ≡ Unary (Only (lanes_kind f))
packer_row = by_format (λ f. takes (packer f) ≡ Unary (Only (lanes_kind f))) refl refl refl refl refl refl refl refl refl

unpacker_row : (f : Format) → takes (unpacker f) ≡ Unary (Only (One U32))
unpacker_row = by_format (λ f. takes (unpacker f) ≡ Unary (Only (One U32))) refl refl refl refl refl refl refl refl refl

packer_answer : (r : Reading) (v : Value) (f : Format) → T (trips r f) → (answer_by r (packer f) Empty v empty_value empty_value).first ≡ packed (coding r f).width (coding r f).code v
unfolding answered answered_losing
packer_answer r v =
    by_format (λ f. T (trips r f) → (answer_by r (packer f) Empty v empty_value empty_value).first ≡ packed (coding r f).width (coding r f).code v)
    (λ t. refl) (λ t. refl) (λ t. refl) (λ t. refl) (clamped r) (λ t. refl) (λ t. refl) (λ t. refl) (λ t. refl)
  where
    clamped : (r : Reading) → T (trips r x_i8_clamp) → (answer_by r (packer x_i8_clamp) Empty v empty_value empty_value).first ≡ packed (coding r x_i8_clamp).width (coding r x_i8_clamp).code v
    clamped In.Crate t = absurd t
    clamped In.Text t = refl

unpacker_answer : (r : Reading) (v : Value) (f : Format) → answer_by r (unpacker f) Empty v empty_value empty_value ≡ answered (unpacked (coding r f).width (coding r f).count (coding r f).lane (lanes_kind f) v)
unpacker_answer r v =
    by_format (λ f. answer_by r (unpacker f) Empty v empty_value empty_value ≡ answered (unpacked (coding r f).width (coding r f).count (coding r f).lane (lanes_kind f) v)) refl refl refl refl refl refl refl refl refl

kind_type : (f : Format) → is_type (lanes_kind f) ≡ true
kind_type = by_format (λ f. is_type (lanes_kind f) ≡ true) refl refl refl refl refl refl refl refl refl

kind_bits : (f : Format) → lane_bits (scalar_of (lanes_kind f)) ≡ 32
kind_bits = by_format (λ f. lane_bits (scalar_of (lanes_kind f)) ≡ 32) refl refl refl refl refl refl refl refl refl

kind_count : (r : Reading) (f : Format) → lane_count (lanes_kind f) ≡ (coding r f).count
kind_count r = by_format (λ f. lane_count (lanes_kind f) ≡ (coding r f).count) refl refl refl refl refl refl refl refl refl

-- unorm and integer words are their own: their lanes, joined again
normal_form_lem : (r : Reading) (x : ℕ) → x < 2 ^ 32 → (f : Format) → normal_form f x ≡ joined (coding r f).width (map (coding r f).normal (parts (coding r f).width (coding r f).count x))
unfolding normal_form
normal_form_lem r x h =
    let bytes = sym (joined_parts 8 4 x h) in
    by_format (λ f. normal_form f x ≡ joined (coding r f).width (map (coding r f).normal (parts (coding r f).width (coding r f).count x))) refl bytes bytes bytes bytes bytes refl (sym (joined_parts 16 2 x h)) refl

module _ (r : Reading) (f : Format) where
  abbrev w : ℕ
  w = (coding r f).width

  abbrev n : ℕ
  n = (coding r f).count

  abbrev codes : List ℕ → List ℕ
  codes ls = map (coding r f).code ls

  abbrev lanes : ℕ → List ℕ
  lanes x = map (coding r f).lane (parts w n x)

  abbrev lanes_value : ℕ → Value
  lanes_value x = value (lanes_kind f) (lanes x)

  -- ---- what the calls give

  pub packs : T (trips r f) → (v : Value) → well_formed v ≡ true → v.kind ≡ lanes_kind f → packing r f v ≡ word (joined (coding r f).width (map (coding r f).code (lanes_of v)))
  unfolding packed
  packs t v h e = ap (λ (a : Answer). a.first) (answers r (packer f) (Only (lanes_kind f)) v (packer_row f) h (rw e (itself (lanes_kind f)))) ∙ packer_answer r v f t

  unpacks : (x : ℕ) → x < 2 ^ 32 → unpacking r f x ≡ lanes_value x
  unfolding answered unpacked value
  unpacks x h =
      let formed-word : well_formed (word x) ≡ true = formed (One U32) (x ∷ []) refl refl (rw (lt-ltb x (2 ^ 32) h)) in
      ap (λ (a : Answer). a.first) (answers r (unpacker f) (Only (One U32)) (word x) (unpacker_row f) formed-word refl ∙ unpacker_answer r (word x) f)

  -- ---- lanes of a word

  lanes_count : (x : ℕ) → length (lanes x) ≡ lane_count (lanes_kind f)
  lanes_count x = length-map (parts w n x) (coding r f).lane ∙ length_parts w n x ∙ sym (kind_count r f)

  lanes_formed : (x : ℕ) → well_formed (lanes_value x) ≡ true
  lanes_formed x =
      formed (lanes_kind f) (lanes x) (kind_type f) (lanes_count x)
      (rw (kind_bits f) (parts_below w (2 ^ 32) (coding r f).lane (laws r f).narrow n x))

  lanes_back : (x : ℕ) → lanes_of (lanes_value x) ≡ lanes x
  lanes_back x = value_lanes (lanes_kind f) (lanes x) (lanes_count x)

  codes_back : (x : ℕ) → codes (lanes x) ≡ map (coding r f).normal (parts w n x)
  codes_back x = map-map (coding r f).code (coding r f).lane (parts w n x) ∙ parts_alike w (λ c. (coding r f).code ((coding r f).lane c)) (coding r f).normal (laws r f).back n x

  form_is : (x : ℕ) → x < 2 ^ 32 → normal_form f x ≡ joined w (codes (lanes x))
  form_is x h = normal_form_lem r x h f ∙ ap (joined w) (sym (codes_back x))

  -- a word's normal form has the word's lanes
  form_lanes : (x : ℕ) → x < 2 ^ 32 → lanes (normal_form f x) ≡ lanes x
  form_lanes x h =
      ap lanes (form_is x h)
      ∙ ap (λ (m : ℕ). map (coding r f).lane (parts w m (joined w (codes (lanes x))))) (sym (lanes_count x ∙ kind_count r f))
      ∙ ap (map (coding r f).lane) (parts_joined w (coding r f).code (laws r f).below (lanes x) ∙ codes_back x)
      ∙ map-map (coding r f).lane (coding r f).normal (parts w n x)
      ∙ parts_alike w (λ c. (coding r f).lane ((coding r f).normal c)) (coding r f).lane (laws r f).alike n x

-- ---- the three sentences

-- Packing what unpacking gives is the word's normal form.
pub pack_unpack : (r : Reading) (f : Format) → T (trips r f) → PackUnpack r f
unfolding value
pack_unpack r f t x h =
    ap (packing r f) (unpacks r f x h) ∙ packs r f t (lanes_value r f x) (lanes_formed r f x) refl
    ∙ ap (λ (ls : List ℕ). word (joined (w r f) (codes r f ls))) (lanes_back r f x) ∙ ap word (sym (form_is r f x h))

-- Two words unpack alike exactly when their normal forms are equal.
pub same_lanes_lem : (r : Reading) (f : Format) → T (trips r f) → SameLanes r f
unfolding value
same_lanes_lem r f t x y hx hy = (
  (λ e. ap (λ (v : Value). lane v 0) (sym (pack_unpack r f t x hx) ∙ ap (packing r f) e ∙ pack_unpack r f t y hy)),
  (λ e. unpacks r f x hx ∙ ap (value (lanes_kind f)) (sym (form_lanes r f x hx) ∙ ap (lanes r f) e ∙ form_lanes r f y hy) ∙ sym (unpacks r f y hy)),
)

-- the word of any lanes
own_form : (r : Reading) (f : Format) (ls : List ℕ) → length ls ≤ n r f → normal_form f (joined (w r f) (codes r f ls)) ≡ joined (w r f) (codes r f ls)
unfolding normal_form
own_form r f ls h =
    let kept = kept_joined (w r f) (coding r f).code (coding r f).normal (laws r f).below (laws r f).own (laws r f).nought (n r f) ls h in
    by_format (λ f. (joined (w r f) (map (coding r f).normal (parts (w r f) (n r f) (joined (w r f) (codes r f ls)))) ≡ joined (w r f) (codes r f ls)) → normal_form f (joined (w r f) (codes r f ls)) ≡ joined (w r f) (codes r f ls))
    (λ e. e) (λ e. refl) (λ e. refl) (λ e. refl) (λ e. refl) (λ e. refl) (λ e. e) (λ e. refl) (λ e. e) f kept

-- Packing any lanes gives a word that is its own normal form.
pub packs_normal : (r : Reading) (f : Format) → T (trips r f) → PacksNormal r f
unfolding value
packs_normal r f t v h e =
    let p = packs r f t v (is_true (well_formed v) h) e in
    let few : length (lanes_of v) ≤ n r f = omega (arith, length-take (lane_count v.kind) v.lanes, ap lane_count e, kind_count r f) in
    p ∙ ap word (sym (own_form r f (lanes_of v) few)) ∙ ap (λ (u : Value). word (normal_form f (lane u 0))) (sym p)
