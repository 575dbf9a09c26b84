-- The one text of a response: status line, fields, body.
use Rattle.std.specs.Prelude.{ℕ, List, [], ◌++◌, Bool, Option, Some, None, length, decimal, codes, if◌then◌else◌}
use Rattle.http.specs.StatusCode.{code_digits}
use Rattle.wire.specs.declared.methods.Methods.{Methods}
use Rattle.wire.specs.declared.methods.Methods.TheVariants.{Get, Post, GetAndPost}
use Rattle.status.specs.Status.{code_of, phrase_of}
use Rattle.status.specs.declared.Status.{Status}

-- version, number, phrase
unfoldable pub status_line : Status → List ℕ
status_line status = codes "HTTP/1.1 " ++ code_digits (code_of status) ++ codes " " ++ phrase_of (code_of status) ++ codes "\r\n"

-- a response up to the number of its content-length
unfoldable pub head_start : Status → List ℕ
head_start status = status_line status ++ codes "content-type: application/json\r\ncontent-length: "

-- a list of methods, as the field `allow` has it
abbrev pub methods_text : Methods → List ℕ
methods_text Get = codes "GET"
methods_text Post = codes "POST"
methods_text GetAndPost = codes "GET, POST"

-- the field that gives the methods of a path, where the response has it
unfoldable pub allow_field : Option Methods → List ℕ
allow_field None = []
allow_field (Some methods) = codes "allow: " ++ methods_text methods ++ codes "\r\n"

-- the field that ends the connection
unfoldable pub closing_field : Bool → List ℕ
closing_field closes = if closes then codes "connection: close\r\n" else []

-- what is between the number of the content-length and the body
unfoldable pub head_end : Option Methods → Bool → List ℕ
head_end allow closes = codes "\r\n" ++ allow_field allow ++ closing_field closes ++ codes "\r\n"

-- the one text of a response
unfoldable pub response_bytes : Status → Option Methods → Bool → List ℕ → List ℕ
response_bytes status allow closes body = head_start status ++ decimal (length body) ++ head_end allow closes ++ body

-- the body that gives one word
abbrev pub error_body : List ℕ → List ℕ
error_body word = codes "{\"error\":\"" ++ word ++ codes "\"}"
