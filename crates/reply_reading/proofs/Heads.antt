-- The heads of requests.
use Rattle.std.proofs.Common.{◌≡◌, ℕ, suc, zero, ◌-◌, ◌%◌, ◌^◌, ◌<◌, ◌≤◌, List, [], ◌∷◌, ◌++◌, length, take, drop, replicate, All, Option, None, Some, MatchOption, IsSomeAnd, ◌≢◌, append_assoc, ap, refl, sym, subst, ◌∙◌, arith}
use Rattle.std.proofs.lemmas.List.{append-nil, drop_all, drop_at, length-append, length-replicate, take_at}
use Rattle.std.proofs.lemmas.List.Elements.{All-cons, All-nil, All-replicate}
use Rattle.std.proofs.lemmas.Option.{same_Some}
use Rattle.nl_attrs.specs.Attributes.{IsAttr, attrs_bytes}
use Rattle.nl_attrs.specs.Endian.{le16, le32, le16_at}
use Rattle.nl_attrs.specs.Messages.{head_bytes, header_flags, pid_of, seq_of, spelled, type_of}
use Rattle.nl_attrs.specs.declared.attr.Attr.{Attr}
use Rattle.nl_attrs.specs.declared.message.Msg.{Msg}
use Rattle.nl_attrs.specs.declared.message.Msg.TheVariants.{Generic, Error, Done}
use Rattle.nl_attrs.proofs.HeadLaws.{head-front, length-generic}
use Rattle.nl_attrs.proofs.Lengths.{length-attr_bytes, length-le16, length-le32}
use Rattle.nl_attrs.proofs.MsgLaws.{length-msg, words-msg}
use Rattle.nl_attrs.proofs.Places.{IsBytes, cut, le16-u16_at, u16_at-lt}
use Rattle.nl80211_cmds.specs.Values.{plain_attr}
use Rattle.reply_reading.specs.Replies.{IsRequest}
use Rattle.reply_reading.specs.inner.Compared.{IsRequestHead}

-- ---- a request of a given length

filling : ℕ → List Attr
filling zero = []
filling (suc k) = plain_attr 0 (replicate (k - 3) 0) ∷ []

filling_length : (n : ℕ) → n % 4 ≡ 0 → length (attrs_bytes (filling n)) ≡ n
unfolding filling
filling_length zero whole = refl
filling_length (suc k) whole =
    let a : Attr = plain_attr 0 (replicate (k - 3) 0) in
    ap length (append-nil _) ∙ length-attr_bytes a ∙ omega (arith, length-replicate {A = ℕ})

filling_fits : (n : ℕ) → n ≤ 65516 → All IsAttr (filling n)
unfolding filling
filling_fits zero few = All-nil IsAttr
filling_fits (suc k) few =
    All-cons IsAttr (plain_attr 0 (replicate (k - 3) 0)) [] (record {
      kind = omega arith;
      short = omega (arith, length-replicate {A = ℕ});
      bytes = All-replicate (λ (b : ℕ). b < 256) (k - 3) 0 (omega arith);
    }) (All-nil IsAttr)

-- ---- the parts of a head

pub record HasParts (head length family seq pid : List ℕ) : Type 0 where
  pub length_is : take 4 head ≡ length
  pub family_is : take 2 (drop 4 head) ≡ family
  pub seq_is : take 4 (drop 8 head) ≡ seq
  pub pid_is : take 4 (drop 12 head) ≡ pid

parts : (a b d s p : List ℕ) → length a ≡ 4 → length b ≡ 2 → length d ≡ 2 → length s ≡ 4 → length p ≡ 4 → HasParts (a ++ (b ++ (d ++ (s ++ p)))) a b s p
parts a b d s p la lb ld ls lp =
    let four : drop 4 (a ++ (b ++ (d ++ (s ++ p)))) ≡ b ++ (d ++ (s ++ p)) = drop_at a (b ++ (d ++ (s ++ p))) 4 la in
    let front : length (a ++ (b ++ d)) ≡ 8 = omega (arith, length-append a (b ++ d), length-append b d) in
    let grouped : a ++ (b ++ (d ++ (s ++ p))) ≡ (a ++ (b ++ d)) ++ (s ++ p) = simp append_assoc in
    let eight : drop 8 (a ++ (b ++ (d ++ (s ++ p)))) ≡ s ++ p = ap (drop 8) grouped ∙ drop_at (a ++ (b ++ d)) (s ++ p) 8 front in
    let longer : length (a ++ (b ++ (d ++ s))) ≡ 12 = omega (arith, length-append a (b ++ (d ++ s)), length-append b (d ++ s), length-append d s) in
    let regrouped : a ++ (b ++ (d ++ (s ++ p))) ≡ (a ++ (b ++ (d ++ s))) ++ p = simp append_assoc in
    let twelve : drop 12 (a ++ (b ++ (d ++ (s ++ p)))) ≡ p = ap (drop 12) regrouped ∙ drop_at (a ++ (b ++ (d ++ s))) p 12 longer in
    record {
      length_is = take_at a (b ++ (d ++ (s ++ p))) 4 la;
      family_is = ap (take 2) four ∙ take_at b (d ++ (s ++ p)) 2 lb;
      seq_is = ap (take 4) eight ∙ take_at s p 4 ls;
      pid_is = ap (take 4) twelve ∙ ap (take 4) (sym (append-nil p)) ∙ take_at p [] 4 lp;
    }

head_parts : (len kind flags seq pid : ℕ) → HasParts (head_bytes len kind flags seq pid) (le32 len) (le16 kind) (le32 seq) (le32 pid)
unfolding head_bytes
head_parts len kind flags seq pid =
    parts (le32 len) (le16 kind) (le16 flags) (le32 seq) (le32 pid) (length-le32 len) (length-le16 kind) (length-le16 flags) (length-le32 seq) (length-le32 pid)

-- sixteen bytes by their parts
joined : (head : List ℕ) → length head ≡ 16 → head ≡ take 4 head ++ (take 2 (drop 4 head) ++ (take 2 (drop 6 head) ++ (take 4 (drop 8 head) ++ take 4 (drop 12 head))))
joined head len =
    let last : drop 12 head ≡ take 4 (drop 12 head) = cut 4 12 head ∙ ap (λ (xs : List ℕ). take 4 (drop 12 head) ++ xs) (drop_all 16 head (omega arith)) ∙ append-nil (take 4 (drop 12 head)) in
    let eight = cut 4 8 head ∙ ap (λ (xs : List ℕ). take 4 (drop 8 head) ++ xs) last in
    let six = cut 2 6 head ∙ ap (λ (xs : List ℕ). take 2 (drop 6 head) ++ xs) eight in
    let four = cut 2 4 head ∙ ap (λ (xs : List ℕ). take 2 (drop 4 head) ++ xs) six in
    cut 4 0 head ∙ ap (λ (xs : List ℕ). take 4 head ++ xs) four

bytes_of_parts : (head : List ℕ) (len kind seq pid : ℕ) → length head ≡ 16 → IsBytes head → HasParts head (le32 len) (le16 kind) (le32 seq) (le32 pid)
    → head ≡ head_bytes len kind (le16_at head 6) seq pid
unfolding head_bytes
bytes_of_parts head len kind seq pid few bytes has =
    let flags : take 2 (drop 6 head) ≡ le16 (le16_at head 6) = sym (le16-u16_at head 6 bytes (omega arith)) in
    let a = has.length_is in let b = has.family_is in let s = has.seq_is in let p = has.pid_is in
    joined head few ∙ (λ i. a i ++ (b i ++ (flags i ++ (s i ++ p i))))

-- ---- what is said is a request's

pub said_is_head : (head : List ℕ) (len kind seq pid : ℕ) → length head ≡ 16 → IsBytes head → HasParts head (le32 len) (le16 kind) (le32 seq) (le32 pid)
    → 20 ≤ len → len ≤ 65536 → len % 4 ≡ 0 → 16 ≤ kind → kind < 2 ^ 16 → seq < 2 ^ 32 → pid < 2 ^ 32 → IsRequestHead seq pid head
said_is_head head len kind seq pid few bytes has least most whole some small seq_fits pid_fits =
    let n : ℕ = len - 20 in
    let flags : ℕ = le16_at head 6 in
    let m : Msg = Generic kind flags seq pid 0 0 (filling n) in
    let long : length (spelled m) ≡ len = length-generic kind flags seq pid 0 0 (filling n) ∙ omega (arith, filling_length n (omega arith)) in
    record {
      request = m;
      is = record {
        generic = tt;
        msg = record {
          flags = u16_at-lt head 6 bytes;
          seq = seq_fits;
          pid = pid_fits;
          body = (some, small, omega arith, omega arith, filling_fits n (omega arith));
          short = omega (arith, long);
        };
      };
      seq_is = refl;
      pid_is = refl;
      head_is = head-front m ∙ ap (λ (k : ℕ). head_bytes k kind flags seq pid) long ∙ sym (bytes_of_parts head len kind seq pid few bytes has);
    }

-- ---- a request's head is said

pub record SaidBy (m : Msg) (head : List ℕ) : Type 0 where
  pub has : HasParts head (le32 (length (spelled m))) (le16 (type_of m)) (le32 (seq_of m)) (le32 (pid_of m))
  pub least : 20 ≤ length (spelled m)
  pub most : length (spelled m) ≤ 65536
  pub whole : length (spelled m) % 4 ≡ 0
  pub some : 16 ≤ type_of m
  pub small : type_of m < 2 ^ 16

family_some : (m : Msg) → IsRequest m → (16 ≤ type_of m) × (type_of m < 2 ^ 16)
family_some (Generic family flags seq pid cmd version attrs) is = (is.msg.body.0, is.msg.body.1)
family_some (Error flags seq pid code head) is = absurd is.generic
family_some (Done flags seq pid code) is = absurd is.generic

pub head_said : (m : Msg) (head : List ℕ) → IsRequest m → take 16 (spelled m) ≡ head → SaidBy m head
head_said m head is e =
    let all : head_bytes (length (spelled m)) (type_of m) (header_flags m) (seq_of m) (pid_of m) ≡ head = sym (head-front m) ∙ e in
    let has = head_parts (length (spelled m)) (type_of m) (header_flags m) (seq_of m) (pid_of m) in
    let family = family_some m is in
    record {
      has = record {
        length_is = ap (take 4) (sym all) ∙ has.length_is;
        family_is = ap (λ (xs : List ℕ). take 2 (drop 4 xs)) (sym all) ∙ has.family_is;
        seq_is = ap (λ (xs : List ℕ). take 4 (drop 8 xs)) (sym all) ∙ has.seq_is;
        pid_is = ap (λ (xs : List ℕ). take 4 (drop 12 xs)) (sym all) ∙ has.pid_is;
      };
      least = length-msg m is.msg;
      most = is.msg.short;
      whole = words-msg m is.msg;
      some = family.0;
      small = family.1;
    }

-- ---- numbers that were read

pub read_as : (o : Option ℕ) (p : List ℕ) (f : ℕ → List ℕ) (n : ℕ) → o ≡ Some n → MatchOption o (length p ≢ 4) (λ k. p ≡ f k) → p ≡ f n
read_as None p f n e match = absurd cc
read_as (Some k) p f n e match = match ∙ ap f (same_Some k n e)

pub read_some : (o : Option ℕ) (p : List ℕ) (f : ℕ → List ℕ) (size : ℕ) (P : ℕ → Type 0) → IsSomeAnd o P → MatchOption o (length p ≢ size) (λ k. p ≡ f k) → (n : ℕ) × (o ≡ Some n) × P n × (p ≡ f n)
read_some None p f size P is match = absurd is
read_some (Some k) p f size P is match = (k, refl, is, match)

pub some_of : (o : Option ℕ) (n : ℕ) (P : ℕ → Type 0) → o ≡ Some n → P n → IsSomeAnd o P
some_of o n P e holds = subst (λ (x : Option ℕ). IsSomeAnd x P) (sym e) holds
