-- Four octets with dots between them are those of one key.
use Rattle.std.proofs.Common.{◌≡◌, ℕ, ◌+◌, ◌*◌, ◌/◌, ◌%◌, ◌^◌, ◌<◌, List, [], ◌∷◌, ◌++◌, decimal, sym, refl, ap, ◌∙◌, append_assoc, arith}
use Rattle.std.specs.declared.net.ipv4_addr.Ipv4Addr.{Ipv4Addr}
use Rattle.std.specs.Net.Addr.{ipv4_bits}
use Rattle.std.specs.Net.Grammar.{IsDotted, IsIpv4Text}
use Rattle.std.specs.Int.{w32, from_be_bytes}
use Rattle.query.specs.Spellings.{FitsNumber, IsTextOfNone, quad_text}
use Rattle.query.proofs.Cuts.{Lacks, cut_one}
use Rattle.query.proofs.Figures.{decimal_lacks, decimal_one}

abbrev pub Octet : ℕ → Type 0
Octet n = n < 256

pub no_dot : (n : ℕ) → FitsNumber n → Lacks 46 (decimal n)
no_dot n h = decimal_lacks 46 n h (λ i. omega (arith, i.0, i.1))

-- a text begins with one octet and its dot at most
octet_cancel : (x y : ℕ) (r t : List ℕ) → Octet x → Octet y → decimal x ++ (46 ∷ r) ≡ decimal y ++ (46 ∷ t) → (x ≡ y) × (r ≡ t)
octet_cancel x y r t g h e =
    let same = cut_one 46 (decimal x) (decimal y) r t (no_dot x (omega arith)) (no_dot y (omega arith)) e in
    (decimal_one x y (omega arith) (omega arith) same.0, same.1)

-- the octets of a key, from the first on
abbrev pub first : ℕ → ℕ
first k = k / 2 ^ 24

abbrev pub second : ℕ → ℕ
second k = k / 2 ^ 16 % 256

abbrev pub third : ℕ → ℕ
third k = k / 2 ^ 8 % 256

abbrev pub fourth : ℕ → ℕ
fourth k = k % 256

pub first_octet : (k : ℕ) → FitsNumber k → Octet (first k)
first_octet k h = omega arith

pub low_octet : (n : ℕ) → Octet (n % 256)
low_octet n = omega arith

abbrev behind_first : ℕ → List ℕ
behind_first k = decimal (second k) ++ (46 ∷ (decimal (third k) ++ (46 ∷ decimal (fourth k))))

abbrev behind_second : ℕ → List ℕ
behind_second k = decimal (third k) ++ (46 ∷ decimal (fourth k))

same_key : (j k : ℕ) → first j ≡ first k → second j ≡ second k → third j ≡ third k → fourth j ≡ fourth k → j ≡ k
same_key j k a b c d = omega arith

pub quad_one : (j k : ℕ) → FitsNumber j → FitsNumber k → quad_text j ≡ quad_text k → j ≡ k
quad_one j k g h e =
    let a = octet_cancel (first j) (first k) (behind_first j) (behind_first k) (first_octet j g) (first_octet k h) e in
    let b = octet_cancel (second j) (second k) (behind_second j) (behind_second k) (low_octet (j / 2 ^ 16)) (low_octet (k / 2 ^ 16)) a.1 in
    let c = octet_cancel (third j) (third k) (decimal (fourth j)) (decimal (fourth k)) (low_octet (j / 2 ^ 8)) (low_octet (k / 2 ^ 8)) b.1 in
    let d = decimal_one (fourth j) (fourth k) (omega (arith, low_octet j)) (omega (arith, low_octet k)) c.1 in
    same_key j k a.0 b.0 c.0 d

-- the key of four octets
key_of : (a b c d k : ℕ) → Octet a → Octet b → Octet c → Octet d → k ≡ ((a * 256 + b) * 256 + c) * 256 + d
    → (first k ≡ a) × (second k ≡ b) × (third k ≡ c) × (fourth k ≡ d) × FitsNumber k
key_of a b c d k g h i j e = (omega arith, omega arith, omega arith, omega arith, omega arith)

bits_of : (a b c d : ℕ) → Octet a → Octet b → Octet c → Octet d → from_be_bytes w32 (a ∷ b ∷ c ∷ d ∷ []) ≡ ((a * 256 + b) * 256 + c) * 256 + d
bits_of a b c d g h i j = omega arith

quad_is : (a b c d k : ℕ) → first k ≡ a → second k ≡ b → third k ≡ c → fourth k ≡ d
    → quad_text k ≡ decimal a ++ (46 ∷ (decimal b ++ (46 ∷ (decimal c ++ (46 ∷ decimal d)))))
quad_is a b c d k p q r s = simp (p, q, r, s)

-- what std reads as an address is the text of its number
pub quad_read : (s : List ℕ) (a : Ipv4Addr) → IsIpv4Text s a → FitsNumber (ipv4_bits a) × (s ≡ quad_text (ipv4_bits a))
unfolding ipv4_bits
quad_read s a t =
    let bits : ipv4_bits a ≡ ((t.a * 256 + t.b) * 256 + t.c) * 256 + t.d =
    ap (from_be_bytes w32) t.value ∙ bits_of t.a t.b t.c t.d t.fit.0 t.fit.1 t.fit.2 t.fit.3 in
    let o = key_of t.a t.b t.c t.d (ipv4_bits a) t.fit.0 t.fit.1 t.fit.2 t.fit.3 bits in
    let flat : s ≡ decimal t.a ++ (46 ∷ (decimal t.b ++ (46 ∷ (decimal t.c ++ (46 ∷ decimal t.d))))) = t.spelled ∙ simp append_assoc in
    (o.4, flat ∙ sym (quad_is t.a t.b t.c t.d (ipv4_bits a) o.0 o.1 o.2 o.3))

-- and what it refuses is no key's
pub quad_unread : (s : List ℕ) → ((a : Ipv4Addr) → IsIpv4Text s a → ⊥) → IsTextOfNone FitsNumber quad_text s
unfolding IsTextOfNone
quad_unread s none k h e =
    let octets = first k ∷ second k ∷ third k ∷ fourth k ∷ [] in
    let text : IsDotted s octets = record {
      a = first k;
      b = second k;
      c = third k;
      d = fourth k;
      fit = (first_octet k h, low_octet (k / 2 ^ 16), low_octet (k / 2 ^ 8), low_octet k);
      value = refl;
      spelled = e ∙ simp append_assoc;
    } in
    none (record { octets = octets }) text
