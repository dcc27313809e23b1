-- What a query is answered, by the register of the image, and how the answer is written.
use Rattle.std.specs.Prelude.{◌≡◌, ℕ, ◌^◌, Bool, true, false, ◌&&◌, List, ◌++◌, Some, None, Ok, Err, codes, decimal, unwrap_or, Option, Result, ◌==◌, nat_lt}
use Rattle.std.specs.Option.{option_map}
use Rattle.accept.specs.Images.{width_of}
use Rattle.accept.specs.declared.image.Image.{Image}
use Rattle.keys.specs.Blocks.{Block, block_of}
use Rattle.requests.specs.Requests.{refusal, register_of, unless_refused}
use Rattle.nodes.specs.Faults.{Outcome, given, refused, number, text_of}
use Rattle.register.specs.Entries.{Entry, Held, longest}
use Rattle.query.specs.Spellings.{address_text}
use Rattle.query.specs.Sites.{site_text}
use Rattle.query.specs.declared.address.Style.{Style}
use Rattle.query.specs.declared.address.Style.TheVariants.{Number, Quad}
use Rattle.query.specs.declared.query.Query.{Query}
use Rattle.query.specs.declared.reply.Match.{Match}
use Rattle.query.specs.declared.reply.Refusal.{Refusal}
use Rattle.query.specs.declared.reply.Refusal.TheVariants.{Unfit, Fault}
use Rattle.query.specs.declared.site.Site.{Site}

-- k is a key of w bits, and may be written in this style: four octets have 32
abbrev pub belongs : ℕ → Style → ℕ → Bool
belongs w Number k = nat_lt k (2 ^ w)
belongs w Quad k = nat_lt k (2 ^ w) && w == 32

-- the length that a query asks for: the whole key where it gives none
abbrev pub query_len : ℕ → Query → ℕ
query_len w q = unwrap_or q.len w

-- the block that it asks for, among keys of w bits
abbrev pub query_block : ℕ → Query → Block
query_block w q = block_of w q.address.key (query_len w q)

-- an entry with its site, its address written in this style
abbrev pub match_of : Style → Entry (Held Site) → Match
match_of s e = record {
  address = record { style = s; key = e.block.address };
  len = e.block.len;
  place = e.item.place;
  site = e.item.value;
}

-- what the image answers to a query whose key belongs: the longest entry that contains its block, unless it is refused by 13 or 12
abbrev pub query_outcome : ℕ → Image Site → Query → Outcome (Option Match)
query_outcome w i q =
    unless_refused (refusal (width_of i) w (query_len w q))
    (option_map (match_of q.address.style) (longest (width_of i) (query_block w q) (register_of i)))

-- the reply to a query for keys of w bits: `Unfit` where its key does not belong, and else what the image answers
abbrev pub IsReply : ℕ → Image Site → Query → Result (Option Match) Refusal → Type 0
IsReply w i q (Ok m) = (belongs w q.address.style q.address.key ≡ true) × (given m ≡ query_outcome w i q)
IsReply w i q (Err (Fault e)) = (belongs w q.address.style q.address.key ≡ true) × (refused (number e) ≡ query_outcome w i q)
IsReply w i q (Err Unfit) = belongs w q.address.style q.address.key ≡ false

abbrev pub match_text : Match → List ℕ
match_text m =
    address_text m.address
    ++ (codes "/" ++ (decimal m.len ++ (codes " at place " ++ (decimal m.place ++ (codes ": " ++ site_text m.site)))))

abbrev pub refusal_text : Refusal → List ℕ
refusal_text Unfit = codes "fault 15, no key of this width"
refusal_text (Fault e) = codes "fault " ++ (decimal (number e) ++ (codes ", " ++ text_of e))

abbrev pub reply_text : Result (Option Match) Refusal → List ℕ
reply_text (Ok (Some m)) = match_text m
reply_text (Ok None) = codes "no match"
reply_text (Err e) = refusal_text e
