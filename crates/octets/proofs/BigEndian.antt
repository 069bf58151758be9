-- Bytes and the numbers that they stand for.
use Rattle.std.proofs.Common.{◌≡◌, ℕ, zero, suc, ◌+◌, ◌*◌, ◌/◌, ◌%◌, ◌^◌, ◌<◌, ◌≤◌, List, [], ◌∷◌, ◌++◌, length, take, drop, sym, refl, ap, ◌∙◌, mul_comm, pow-suc, arith, length-append, length-drop, length-take}
use native.Mathlib.Nat.{div-div-eq-div-mul}
use Rattle.std.proofs.lemmas.List.{get_or-take, get_or-drop, drop-append-le, drop_all}
use Rattle.octets.specs.BigEndian.{digits, number_from, number_of, Bytes}

pub length_digits : (k n : ℕ) → length (digits k n) ≡ k
length_digits zero n = refl
length_digits (suc k) n = length-append (digits k (n / 256)) (n % 256 ∷ []) ∙ omega (arith, length_digits k (n / 256))

number_from_append : (n : ℕ) (xs ys : List ℕ) → number_from n (xs ++ ys) ≡ number_from (number_from n xs) ys
number_from_append n [] ys = refl
number_from_append n (x ∷ xs) ys = number_from_append (n * 256 + x) xs ys

-- what is written of a number that fits is read as that number
pub number_digits : (k n : ℕ) → n < 256 ^ k → number_of (digits k n) ≡ n
number_digits zero n l = omega arith
number_digits (suc k) n l =
    let p = pow-suc 256 k in
    let r = number_digits k (n / 256) (omega arith) in
    number_from_append 0 (digits k (n / 256)) (n % 256 ∷ []) ∙ omega arith

-- the highest of the lowest k + 1 bytes comes first
digits_top : (k m : ℕ) → digits (suc k) m ≡ m / 256 ^ k % 256 ∷ digits k m
digits_top zero m = ap (λ q. q % 256 ∷ []) (let e : m ≡ m / 1 = omega arith in e)
digits_top (suc k) m =
    let e : m / 256 / 256 ^ k ≡ m / 256 ^ suc k = div-div-eq-div-mul m 256 (256 ^ k) ∙ ap (λ q. m / q) (mul_comm 256 (256 ^ k) ∙ sym (pow-suc 256 k)) in
    ap (λ zs. zs ++ m % 256 ∷ []) (digits_top k (m / 256)) ∙ ap (λ q. q % 256 ∷ digits (suc k) m) e

-- bytes that follow do not reach what they follow
number_high : (n : ℕ) (bs : List ℕ) → Bytes bs → number_from n bs / 256 ^ length bs ≡ n
number_high n [] h = omega arith
number_high n (b ∷ bs) h =
    let l = h 0 (omega arith) in
    let r = number_high (n * 256 + b) bs (λ k m. h (suc k) (omega arith)) in
    ap (λ q. number_from (n * 256 + b) bs / q) (pow-suc 256 (length bs))
    ∙ sym (div-div-eq-div-mul (number_from (n * 256 + b) bs) (256 ^ length bs) 256)
    ∙ omega arith

digits_from : (n : ℕ) (bs : List ℕ) → Bytes bs → digits (length bs) (number_from n bs) ≡ bs
digits_from n [] h = refl
digits_from n (b ∷ bs) h =
    let l = h 0 (omega arith) in
    let r = number_high (n * 256 + b) bs (λ k m. h (suc k) (omega arith)) in
    let e : number_from (n * 256 + b) bs / 256 ^ length bs % 256 ≡ b = omega arith in
    digits_top (length bs) (number_from (n * 256 + b) bs)
    ∙ ap (λ q. q ∷ digits (length bs) (number_from (n * 256 + b) bs)) e
    ∙ ap (λ zs. b ∷ zs) (digits_from (n * 256 + b) bs (λ k m. h (suc k) (omega arith)))

-- what is read of bytes is written as those bytes
pub digits_number : (bs : List ℕ) → Bytes bs → digits (length bs) (number_of bs) ≡ bs
digits_number bs h = digits_from 0 bs h

pub number_more : (bs : List ℕ) (b : ℕ) → number_of (bs ++ b ∷ []) ≡ number_of bs * 256 + b
number_more bs b = number_from_append 0 bs (b ∷ [])

-- the lowest bytes come last
pub digits_last : (j k n : ℕ) → drop j (digits (j + k) n) ≡ digits k n
digits_last j zero n = drop_all j (digits (j + 0) n) (omega (arith, length_digits (j + 0) n))
digits_last j (suc k) n =
    let l : length (digits (j + k) (n / 256)) ≡ j + k = length_digits (j + k) (n / 256) in
    ap (λ m. drop j (digits m n)) (let e : j + suc k ≡ suc (j + k) = omega arith in e)
    ∙ drop-append-le j (digits (j + k) (n / 256)) (n % 256 ∷ []) (omega arith)
    ∙ ap (λ zs. zs ++ n % 256 ∷ []) (digits_last j k (n / 256))

-- the quotients that the library writes out are repeated ones
pub digits_8 : (n : ℕ)
    → (n / 72057594037927936 % 256) ∷ (n / 281474976710656 % 256) ∷ (n / 1099511627776 % 256) ∷ (n / 4294967296 % 256) ∷ (n / 16777216 % 256) ∷ (n / 65536 % 256)
    ∷ (n / 256 % 256) ∷ (n % 256) ∷ []
    ≡ digits 8 n
digits_8 n =
    let a : n / 256 / 256 ≡ n / 65536 = omega arith in
    let b : n / 65536 / 256 ≡ n / 16777216 = omega arith in
    let c : n / 16777216 / 256 ≡ n / 4294967296 = omega arith in
    let d : n / 4294967296 / 256 ≡ n / 1099511627776 = omega arith in
    let e : n / 1099511627776 / 256 ≡ n / 281474976710656 = omega arith in
    let f : n / 281474976710656 / 256 ≡ n / 72057594037927936 = omega arith in
    simp (a, b, c, d, e, f)

-- parts of bytes are bytes
pub bytes_take : (n : ℕ) (bs : List ℕ) → Bytes bs → Bytes (take n bs)
bytes_take n bs h k l =
    let m : length (take n bs) ≤ n = simp length-take (omega arith) in
    let q : length (take n bs) ≤ length bs = simp length-take (omega arith) in
    rw (get_or-take n bs k 0 (omega arith)) (h k (omega arith))

pub bytes_drop : (n : ℕ) (bs : List ℕ) → Bytes bs → Bytes (drop n bs)
bytes_drop n bs h k l = let m = length-drop n bs in rw (get_or-drop n bs k 0) (h (n + k) (omega arith))

-- the number of the k bytes from a on is written as those bytes
pub digits_part : (k a : ℕ) (bs : List ℕ) → Bytes bs → a + k ≤ length bs → digits k (number_of (take k (drop a bs))) ≡ take k (drop a bs)
digits_part k a bs h l =
    let n : length (take k (drop a bs)) ≡ k = simp (length-take, length-drop) (omega arith) in
    ap (λ j. digits j (number_of (take k (drop a bs)))) (sym n) ∙ digits_number (take k (drop a bs)) (bytes_take k (drop a bs) (bytes_drop a bs h))
