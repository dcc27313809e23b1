-- The made prefix has the block of the query's first bits, which its kind made it of.
use Rattle.std.proofs.Common.{◌≡◌, ℕ, ◌-◌, ◌/◌, ◌^◌, ◌<◌, sym, ap, ◌∙◌, subst, ap₂, le_refl, mod-eq_of_lt, rules}
use Rattle.keys.specs.Blocks.{Block, Proper, block_of, cut, first_bits}
use Rattle.keys.proofs.Cuts.{block_proper, block_same, first_bits_cut}
use Rattle.requests.specs.Requests.{shown_block}
use Rattle.matches.proofs.cut_to.Goals as goal

pub returns : goal.returns
returns g c =
    let w : ℕ = g.P.R.Key.width in
    let n : ℕ = c.args.len in
    let key : ℕ = g.P.Prefix.raw c.args.q.now in
    let raw : ℕ = g.P.Prefix.raw c.from_repr_len.result in
    let wide : c.of.result.width ≡ w = c.of.ensures.width in
    let is_key : c.of.result.bits ≡ key = c.of.ensures.bits ∙ c.repr.ensures.raw in
    let fits : c.of.result.bits < 2 ^ c.of.result.width = search rules in
    let below : c.cut-address.result < 2 ^ w = subst (λ (k : ℕ). c.cut-address.result < 2 ^ k) wide (c.cut-address.ensures.below fits) in
    let key_below : key < 2 ^ w = subst (λ (k : ℕ). key < 2 ^ k) wide (subst (λ (k : ℕ). k < 2 ^ c.of.result.width) is_key fits) in
    let address : g.P.R.Key.num c.narrow.result ≡ cut w n key = c.narrow.ensures ∙ (mod-eq_of_lt below ∙ (c.cut-address.ensures.zeros ∙ ap₂ (λ (k a : ℕ). cut k n a) wide is_key)) in
    let from : ◌≡◌ {A = Block} (record { address = g.P.R.Key.num c.narrow.result; len = n }) (block_of w key n) = ap (λ (a : ℕ). record { address = a; len = n }) address in
    let proper : Proper w (record { address = g.P.R.Key.num c.narrow.result; len = n }) = subst (Proper w) (sym from) (block_proper w key n key_below c.requires) in
    let bits : first_bits w n raw ≡ first_bits w n key =
    c.from_repr_len.ensures.agrees proper ∙ (ap (λ (t : ℕ). t / 2 ^ (w - n)) address ∙ first_bits_cut w n n key (le_refl n)) in
    let block : shown_block w g.P.Prefix.raw g.P.Prefix.shown c.from_repr_len.result ≡ block_of w key n =
    ap (block_of w raw) (c.from_repr_len.ensures.length proper) ∙ block_same w n raw key bits in
    record {
      block = block;
      makes = subst (λ (b : Block). g.P.Prefix.makes b c.from_repr_len.result) (from ∙ sym block) (c.from_repr_len.ensures.made proper);
    }
