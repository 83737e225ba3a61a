-- What reading a value's text into lent words gives, by its three cases. Assumes nothing.
use Prim.Native.Nat.{ℕ, ◌≤◌, ◌<◌}
use mathlib.Core.List.{List}
use mathlib.Core.Path.{◌≡◌, refl, sym}
use borrow.Author.Tests.{lt-ltb, le-ltb, ne_eqb}
use lib.ListN.{length}
use Rattle.buffers.specs.Memory.{put}
use Rattle.buffers.proofs.Puts.{put_nil}
use Rattle.words.specs.Words.{words_of}
use Rattle.spelling.specs.Read.{fault_number, read_value}
use Rattle.spelling.proofs.FaultPlaces.{place_most}
use Rattle.reading.specs.declared.ReadInto.{ReadInto}
use Rattle.reading.specs.Into.{refusal_in, read_in, words_in}

abbrev Gives : List ℕ → List ℕ → ReadInto → List ℕ → Type 0
Gives o s r o' = (r ≡ read_in (length o) s) × (o' ≡ put o 0 (words_in (length o) s))

module _ (o s : List ℕ) {n : ℕ} (e : n ≡ fault_number (read_value s).fault) where
  pub faulty : (n ≡ 0 → ⊥) → Gives o s (record { refusal = n; place = (read_value s).place }) o
  unfolding read_in words_in refusal_in
  faulty h = rw (← e, ne_eqb n 0 h) (refl, rw (ne_eqb n 0 h) (sym (put_nil o 0)))

  pub too_short : n ≡ 0 → length o < 17 → Gives o s (record { refusal = 8; place = (read_value s).place }) o
  unfolding read_in words_in refusal_in
  too_short z h = rw (← e, z, lt-ltb _ _ h) (refl, sym (put_nil o 0))

  pub read : n ≡ 0 → 17 ≤ length o → {o' : List ℕ} → o' ≡ put o 0 (words_of (read_value s).value) → Gives o s (record { refusal = 0; place = (read_value s).place }) o'
  unfolding read_in words_in refusal_in
  read z h p = rw (← e, z, le-ltb _ _ h) (refl, p)

pub place_few : (room : ℕ) (s : List ℕ) → (read_in room s).place ≤ 156
unfolding read_in
place_few room s = place_most s
