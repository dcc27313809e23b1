-- The laws of addresses, of each list of entries: where an address is matched, a block covered, and all addresses matched.
use Rattle.std.proofs.Common.{◌≡◌, ℕ, ◌+◌, ◌-◌, ◌*◌, ◌/◌, ◌^◌, ◌<◌, ◌≤◌, leb, List, sym, ap, ◌∙◌, div-lt_iff_lt-mul, le-div_iff_mul-le, arith, pow_pos}
use native.Mathlib.Nat.{div-eq_of_lt}
use Rattle.std.proofs.lemmas.Bool.{and_parts, and_from, le-leb, eq-eqb, eqb-true}
use Rattle.keys.specs.Blocks.{Block, Proper}
use Rattle.register.specs.Entries.{Entry}
use Rattle.register.proofs.Hits.{later}
use Rattle.addresses.specs.Addresses.{matched}
use Rattle.addresses.specs.Laws.{HasAddress, AddressLaws}
use Rattle.addresses.proofs.Counts.{each_at, each_from, count_le, count_all, all_count}
use Rattle.addresses.proofs.Matched.{has_longest, lies_matched, matched_lies}
use Rattle.addresses.proofs.Sizes.{cut_whole, range_bits}

module _ (w : ℕ) (b : Block) (proper : Proper w b) (x : ℕ) where
  -- the addresses of a block are those from its own on, 2^(w - n) of them for a length n
  address_in : HasAddress w b x → (b.address ≤ x) × (x < b.address + 2 ^ (w - b.len))
  address_in h =
      let k : ℕ = w - b.len in
      let p : 0 < 2 ^ k = pow_pos k in
      let q : ℕ = b.address / 2 ^ k in
      let agree : q ≡ x / 2 ^ k = eqb-true _ _ (and_parts (leb b.len w) _ h.1).1 ∙ ap (λ y. y / 2 ^ k) (cut_whole w x) in
      let low : q * 2 ^ k ≤ x = (le-div_iff_mul-le p).0 (omega (arith, agree)) in
      let high : x < (q + 1) * 2 ^ k = (div-lt_iff_lt-mul p).0 (omega (arith, agree)) in
      let at : q * 2 ^ k ≡ b.address = proper.2 in
      (omega arith, omega arith)

  in_address : b.address ≤ x → x < b.address + 2 ^ (w - b.len) → HasAddress w b x
  in_address l u =
      let k : ℕ = w - b.len in
      let q : ℕ = b.address / 2 ^ k in
      let at : q * 2 ^ k ≡ b.address = proper.2 in
      let agree : x / 2 ^ k ≡ q = range_bits k q x (omega arith) (omega arith) in
      let all : x / 2 ^ w ≡ 0 = later k w x b.address (omega arith) agree ∙ div-eq_of_lt proper.1 in
      let low : x < 1 * 2 ^ w = (div-lt_iff_lt-mul (pow_pos w)).0 (omega (arith, all)) in
      (omega arith, and_from _ _ (le-leb b.len w proper.0) (eq-eqb _ _ (sym agree ∙ ap (λ y. y / 2 ^ k) (sym (cut_whole w x)))))

pub address_laws : {A : Type 0} (w : ℕ) (es : List (Entry A)) → AddressLaws w es
address_laws w es = record {
  matched_lies = λ a h. matched_lies w a es h;
  lies_matched = λ a l. lies_matched w a es l;
  has_longest = λ a. has_longest w a es;
  covered_each = λ b p h a i. (
      let r = address_in w b p a i in
      each_at (matched w es) b.address (2 ^ (w - b.len)) a h r.0 r.1
      );
  each_covered = λ b p h. each_from (matched w es) b.address (2 ^ (w - b.len)) (λ x l u. h x (in_address w b p x l u));
  at_most = count_le (matched w es) 0 (2 ^ w);
  whole_each = λ h a l. each_at (matched w es) 0 (2 ^ w) a (all_count (matched w es) 0 (2 ^ w) h) (omega arith) (omega arith);
  each_whole = λ h. count_all (matched w es) 0 (2 ^ w) (each_from (matched w es) 0 (2 ^ w) (λ x l u. h x (omega arith)));
}
