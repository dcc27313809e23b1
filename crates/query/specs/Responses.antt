-- What a line of queries is answered, and how the answer is written.
use Rattle.std.specs.Prelude.{◌≡◌, ℕ, List, ◌++◌, Ok, Err, codes, decimal, Result}
use Rattle.accept.specs.declared.image.Image.{Image}
use Rattle.query.specs.Replies.{IsReply, reply_text}
use Rattle.query.specs.Spellings.{FitsQuery, IsTextOfNone, query_text}
use Rattle.query.specs.declared.response.Answered.{Answered}
use Rattle.query.specs.declared.response.NoQuery.{NoQuery}
use Rattle.query.specs.declared.site.Site.{Site}

-- the query whose text line n is, with the reply to it; or the line's number, where it is no query's text
abbrev pub IsResponse : ℕ → Image Site → ℕ → List ℕ → Result Answered NoQuery → Type 0
IsResponse w i n line (Ok a) = FitsQuery a.query × (line ≡ query_text a.query) × IsReply w i a.query a.reply
IsResponse w i n line (Err e) = (e.line ≡ n) × IsTextOfNone FitsQuery query_text line

abbrev pub answered_text : Answered → List ℕ
answered_text a = query_text a.query ++ (codes ": " ++ reply_text a.reply)

abbrev pub no_query_text : NoQuery → List ℕ
no_query_text e = codes "line " ++ (decimal e.line ++ codes ": fault 15, no query")
